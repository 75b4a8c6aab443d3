use Rattle.std.proofs.Common.{◌∙◌, arith, sym}
use Rattle.idl_joint_places.proofs.ThereLemmas.{all_so_far, one_more_marked}
use Rattle.idl_joint_places.proofs.limits.are_all_marked.Goals as goal

pub loop-place-init : goal.loop-place-init
loop-place-init c = λ place low. absurd (omega (arith, low))

pub loop-place-preserved : goal.loop-place-preserved
loop-place-preserved c = one_more_marked c.args.marks.now c.loop-place.place (sym c.is_marked.ensures ∙ c.if-not-is_marked.false) c.loop-place.invariant

pub returns : goal.returns
returns c = λ yes. all_so_far c.args.marks.now c.loop-place.place (omega (arith, c.loop-place-test.false)) c.loop-place.invariant
