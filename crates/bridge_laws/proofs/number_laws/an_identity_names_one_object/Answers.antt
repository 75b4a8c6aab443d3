use Rattle.bridge_laws.proofs.ObjectKeepingLaws.{one_object}
use Rattle.bridge_laws.proofs.number_laws.an_identity_names_one_object.Goals as goal

pub returns : goal.returns
returns c = one_object
