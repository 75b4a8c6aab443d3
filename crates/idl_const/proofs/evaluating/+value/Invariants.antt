use Rattle.std.proofs.Common.{◌≡◌, drop}
use Rattle.idl_model.specs.Values.{values}
use Rattle.idl_trees.specs.Expressions.{operands_of}
use Rattle.idl_const.proofs.evaluating.+value.Given as goal

abbrev pub invariant-chain-loop-operand : goal.invariant-chain-loop-operand
invariant-chain-loop-operand g l =
    let names = g.V.Values.value_known l.names in
    values names l.value (operands_of (drop l.operand-index l.operands)) ≡ values names l.first (operands_of l.operands)
