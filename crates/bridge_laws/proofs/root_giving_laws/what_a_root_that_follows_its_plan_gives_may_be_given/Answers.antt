use Rattle.bridge_laws.proofs.RunGivingLaws.{given_by_run}
use Rattle.bridge_laws.proofs.root_giving_laws.what_a_root_that_follows_its_plan_gives_may_be_given.Goals as goal

pub returns : goal.returns
returns c = given_by_run
