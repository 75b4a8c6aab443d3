use Rattle.std.proofs.Common.{◌≡◌, ◌++◌, take}
use Rattle.idl_meaning_model.specs.Uses.{operand_paths}
use Rattle.idl_trees.specs.Expressions.{operands_of}
use Rattle.idl_names.specs.Used.{all_used_of, values_used}
use Rattle.idl_names.proofs.used.+expr.Given as goal

abbrev pub invariant-add_operands-loop-operand : goal.invariant-add_operands-loop-operand
invariant-add_operands-loop-operand l =
    all_used_of l.used.items ≡ all_used_of l.fn.used.items ++ values_used (operand_paths (operands_of (take l.operand-index l.operands)))
