use Rattle.uno_model.proofs.AssignableLaws.{assignable_to_itself}
use Rattle.uno_model.proofs.assignable_laws.a_type_is_assignable_to_itself.Goals as goal

pub returns : goal.returns
returns c = assignable_to_itself
