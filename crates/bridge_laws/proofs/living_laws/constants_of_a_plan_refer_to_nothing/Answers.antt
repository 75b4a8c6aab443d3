use Rattle.bridge_laws.proofs.PlanConstantLaws.{plan_refers_to_nothing}
use Rattle.bridge_laws.proofs.living_laws.constants_of_a_plan_refer_to_nothing.Goals as goal

pub returns : goal.returns
returns c = plan_refers_to_nothing
