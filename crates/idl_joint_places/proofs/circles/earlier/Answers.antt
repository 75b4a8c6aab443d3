use Rattle.std.proofs.Common.{subst}
use Rattle.idl_joint_places.specs.Circles.{FindsLeast}
use Rattle.idl_joint_places.proofs.CircleLaws.{no_other}
use Rattle.idl_joint_places.proofs.circles.earlier.Goals as goal

pub returns-in_default : goal.returns-in_default
returns-in_default c = λ ps qs first second. no_other ps qs (subst (FindsLeast ps) c.in_default.is first) c.args.second second

pub returns : goal.returns
returns c = λ ps qs first second. c.earlier_of.ensures ps qs (subst (FindsLeast ps) c.in-Some.is first) second
