use Rattle.uno_model.proofs.FunctionLaws.{rooted}
use Rattle.uno_model.proofs.function_laws.every_interface_stands_on_the_root.Goals as goal

pub returns : goal.returns
returns c = λ reg name sound root is. (rooted reg name sound root is).1
