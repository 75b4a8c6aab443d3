use Rattle.bridge_laws.proofs.ObjectKeepingLaws.{all_numbered}
use Rattle.bridge_laws.proofs.number_laws.numbers_tell_objects_apart.Goals as goal

pub returns : goal.returns
returns c = all_numbered
