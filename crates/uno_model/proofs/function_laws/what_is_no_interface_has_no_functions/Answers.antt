use Rattle.uno_model.proofs.FunctionLaws.{no_functions}
use Rattle.uno_model.proofs.function_laws.what_is_no_interface_has_no_functions.Goals as goal

pub returns : goal.returns
returns c = no_functions
