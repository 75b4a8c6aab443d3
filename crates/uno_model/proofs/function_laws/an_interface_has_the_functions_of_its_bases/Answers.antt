use Rattle.uno_model.proofs.FunctionLaws.{functions_of_base}
use Rattle.uno_model.proofs.function_laws.an_interface_has_the_functions_of_its_bases.Goals as goal

pub returns : goal.returns
returns c = functions_of_base
