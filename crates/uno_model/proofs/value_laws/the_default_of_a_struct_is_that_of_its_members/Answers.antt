use Rattle.uno_model.proofs.DefaultLaws.{default_of_tuple}
use Rattle.uno_model.proofs.value_laws.the_default_of_a_struct_is_that_of_its_members.Goals as goal

pub returns : goal.returns
returns c = λ reg sound name. (default_of_tuple reg sound name).0
