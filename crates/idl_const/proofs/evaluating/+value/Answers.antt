use Rattle.std.proofs.Common.{◌≡◌, ◌+◌, ℤ, FitsSigned, to_z, of_z, drop, map, rules, subst, sym}
use Rattle.std.proofs.lemmas.Int.{to_z-of_z}
use Rattle.std.specs.Int.{w128}
use Rattle.idl_const.proofs.Steps.{handed_over, operand_on, operand_refused, none_left, operand_at, operands_end}
use Rattle.idl_model.specs.Values.{values}
use Rattle.idl_trees.specs.Expressions.{operand_of, operands_of}
use Rattle.idl_const.proofs.evaluating.+value.Goals as goal

pub chain-returns-in_err-value : goal.chain-returns-in_err-value
chain-returns-in_err-value g t c =
    handed_over c.from_residual.result c.in_err-value.field-0.0 _ c.from_residual.ensures
    (operand_refused (g.V.Values.value_known c.args.names.now) (to_z w128 c.loop-operand.value-bits) (operand_of c.operand-item.result)
    (map operand_of (drop c.loop-operand.operand-index c.args.operands.now)) (map operand_of (drop (c.loop-operand.operand-index + 1) c.args.operands.now))
    c.in_err-value.field-0.0 _ (operand_at operand_of c.args.operands.now c.loop-operand.operand-index c.operand-item.result c.loop-operand-test.true c.operand-item.is)
    c.in_err-value.ensures (rw (to_z-of_z w128 c.args.first c.ranges.first) at c.loop-operand.invariant))

pub chain-loop-operand-preserved : goal.chain-loop-operand-preserved
chain-loop-operand-preserved g t c =
    let names = g.V.Values.value_known c.args.names.now in
    let fits : FitsSigned w128 c.in_ok-value.value = search rules in
    subst (λ (k : ℤ). values names k (operands_of (drop (c.loop-operand.operand-index + 1) c.args.operands.now))
    ≡ values names (to_z w128 (of_z w128 c.args.first)) (operands_of c.args.operands.now)) (sym (to_z-of_z w128 c.in_ok-value.value fits))
    (operand_on names (to_z w128 c.loop-operand.value-bits) c.in_ok-value.value (operand_of c.operand-item.result)
    (map operand_of (drop c.loop-operand.operand-index c.args.operands.now)) (map operand_of (drop (c.loop-operand.operand-index + 1) c.args.operands.now)) _
    (operand_at operand_of c.args.operands.now c.loop-operand.operand-index c.operand-item.result c.loop-operand-test.true c.operand-item.is)
    c.in_ok-value.ensures c.loop-operand.invariant)

pub chain-returns : goal.chain-returns
chain-returns g t c =
    none_left (g.V.Values.value_known c.args.names.now) (to_z w128 c.loop-operand.value-bits) (map operand_of (drop c.loop-operand.operand-index c.args.operands.now)) _
    (operands_end operand_of c.args.operands.now c.loop-operand.operand-index c.loop-operand-test.false)
    (rw (to_z-of_z w128 c.args.first c.ranges.first) at c.loop-operand.invariant)
