use Rattle.bridge_laws.proofs.ObjectKeepingLaws.{objects_stay}
use Rattle.bridge_laws.proofs.number_laws.an_object_number_is_never_given_twice.Goals as goal

pub returns : goal.returns
returns c = objects_stay
