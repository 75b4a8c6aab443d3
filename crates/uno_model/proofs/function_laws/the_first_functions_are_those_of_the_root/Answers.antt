use Rattle.uno_model.proofs.FunctionLaws.{rooted}
use Rattle.uno_model.proofs.function_laws.the_first_functions_are_those_of_the_root.Goals as goal

pub returns : goal.returns
returns c = λ reg name sound root is. (rooted reg name sound root is).0
