use Rattle.std.proofs.Common.{◌≡◌, ℤ, FitsSigned, to_z, of_z, map, rules, subst, sym}
use Rattle.std.proofs.lemmas.Int.{to_z-of_z}
use Rattle.std.specs.Int.{w128}
use Rattle.idl_const.proofs.Steps.{handed_over, sign_on, sign_refused, signs_done}
use Rattle.idl_model.specs.Values.{signs_applied}
use Rattle.idl_trees.specs.Expressions.{sign_of}
use Rattle.idl_const.proofs.apply.signed.Goals as goal

pub returns-in_err-value : goal.returns-in_err-value
returns-in_err-value c =
    handed_over c.from_residual.result c.in_err-value.field-0.0 _ c.from_residual.ensures
    (sign_refused sign_of c.loop-last.left.now c.in-Some.before.now c.in-Some.last.now (to_z w128 c.loop-last.value-bits) c.in_err-value.field-0.0 _
    c.in-Some.ensures.cases.0 c.in_err-value.ensures (rw (to_z-of_z w128 c.args.operand c.ranges.operand) at c.loop-last.invariant))

pub loop-last-preserved : goal.loop-last-preserved
loop-last-preserved c =
    let fits : FitsSigned w128 c.in_ok-value.value = search rules in
    subst (λ (k : ℤ). signs_applied (map sign_of c.in-Some.before.now) k ≡ signs_applied (map sign_of c.args.signs.now) (to_z w128 (of_z w128 c.args.operand)))
    (sym (to_z-of_z w128 c.in_ok-value.value fits))
    (sign_on sign_of c.loop-last.left.now c.in-Some.before.now c.in-Some.last.now (to_z w128 c.loop-last.value-bits) c.in_ok-value.value _
    c.in-Some.ensures.cases.0 c.in_ok-value.ensures c.loop-last.invariant)

pub returns : goal.returns
returns c =
    signs_done sign_of c.loop-last.left.now (to_z w128 c.loop-last.value-bits) _ c.in_default.ensures.cases
    (rw (to_z-of_z w128 c.args.operand c.ranges.operand) at c.loop-last.invariant)
