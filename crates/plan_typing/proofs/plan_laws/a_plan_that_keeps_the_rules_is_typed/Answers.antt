use Rattle.plan_typing.proofs.PlanLaws.{plan_typed}
use Rattle.plan_typing.proofs.plan_laws.a_plan_that_keeps_the_rules_is_typed.Goals as goal

pub returns : goal.returns
returns c = plan_typed
