use Rattle.std.proofs.Common.{subst}
use Rattle.idl_check.proofs.VerdictLemmas.{judged_none, judged_some}
use Rattle.idl_joint_places.specs.Circles.{FindsLeast}
use Rattle.idl_rules_model.specs.CheckVerdicts.{broken_among}
use Rattle.idl_check.proofs.judge.refuse.Goals as goal

pub returns-in-Some : goal.returns-in-Some
returns-in-Some c r ds is below finds = judged_some r c.args.number ds c.in-Some.place is below (subst (FindsLeast (broken_among r ds)) c.in-Some.is finds)

pub returns-in-None : goal.returns-in-None
returns-in-None c r ds is below finds = judged_none r c.args.number ds is below (subst (FindsLeast (broken_among r ds)) c.in-None.is finds)
