use Rattle.uno_model.specs.Kinds as kd
use Rattle.plan_checks.proofs.Truths.{other_told}
use Rattle.plan_checks.proofs.fitting.is_list_of_anys.Goals as goal

pub returns : goal.returns
returns c = other_told (kd.sequence kd.any) _ _ c.is_sequence_of_any.ensures
