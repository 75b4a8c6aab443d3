use Rattle.std.proofs.Common.{◌∙◌, subst, sym}
use Rattle.idl_joint_places.specs.Circles.{FindsLeast}
use Rattle.idl_joint_places.proofs.CircleLaws.{first_first, no_second, second_first}
use Rattle.idl_joint_places.proofs.circles.earlier_of.Goals as goal

pub returns-in_default : goal.returns-in_default
returns-in_default c = λ ps qs first second. no_second ps qs c.args.place (subst (FindsLeast qs) c.in_default.is second) first

pub returns-then-is_before : goal.returns-then-is_before
returns-then-is_before c = λ ps qs first second.
    second_first ps qs c.args.place c.in-Some.other first (subst (FindsLeast qs) c.in-Some.is second) (sym c.is_before.ensures ∙ c.if-is_before.true)

pub returns : goal.returns
returns c = λ ps qs first second.
    first_first ps qs c.args.place c.in-Some.other first (subst (FindsLeast qs) c.in-Some.is second) (sym c.is_before.ensures ∙ c.if-is_before.false)
