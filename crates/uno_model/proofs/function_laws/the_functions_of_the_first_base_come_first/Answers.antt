use Rattle.uno_model.proofs.FunctionLaws.{first_base_first}
use Rattle.uno_model.proofs.function_laws.the_functions_of_the_first_base_come_first.Goals as goal

pub returns : goal.returns
returns c = first_base_first
