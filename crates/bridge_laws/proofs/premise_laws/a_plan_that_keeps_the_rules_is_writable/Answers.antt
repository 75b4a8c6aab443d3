use Rattle.bridge_laws.proofs.PlanSpelling.{plan_writable}
use Rattle.bridge_laws.proofs.premise_laws.a_plan_that_keeps_the_rules_is_writable.Goals as goal

pub returns : goal.returns
returns c reg p sound items keeps = plan_writable reg sound items p keeps
