use Rattle.uno_model.proofs.AssignableLaws.{assignable_over}
use Rattle.uno_model.proofs.assignable_laws.what_is_assignable_is_so_over_two_steps.Goals as goal

pub returns : goal.returns
returns c = assignable_over
