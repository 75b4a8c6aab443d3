use Rattle.bridge_laws.proofs.RootConstantLaws.{roots_refer_to_nothing}
use Rattle.bridge_laws.proofs.root_laws.constants_of_roots_refer_to_nothing.Goals as goal

pub returns : goal.returns
returns c = roots_refer_to_nothing
