use Rattle.plan_model.proofs.PlanLaws.{text_keeps}
use Rattle.plan_model.proofs.text_laws.the_plan_of_a_text_keeps_the_rules.Goals as goal

pub returns : goal.returns
returns c = text_keeps
