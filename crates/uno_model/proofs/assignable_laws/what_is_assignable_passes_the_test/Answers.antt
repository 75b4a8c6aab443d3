use Rattle.uno_model.proofs.AssignableLaws.{assignable_told}
use Rattle.uno_model.proofs.assignable_laws.what_is_assignable_passes_the_test.Goals as goal

pub returns : goal.returns
returns c = assignable_told
