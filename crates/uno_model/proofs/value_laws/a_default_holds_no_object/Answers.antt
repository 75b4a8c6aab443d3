use Rattle.uno_model.proofs.DefaultLaws.{default_holds_none}
use Rattle.uno_model.proofs.value_laws.a_default_holds_no_object.Goals as goal

pub returns : goal.returns
returns c = default_holds_none
