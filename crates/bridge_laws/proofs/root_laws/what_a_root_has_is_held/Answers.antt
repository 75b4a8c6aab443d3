use Rattle.bridge_laws.proofs.HeldRunLaws.{own_held}
use Rattle.bridge_laws.proofs.root_laws.what_a_root_has_is_held.Goals as goal

pub returns : goal.returns
returns c = own_held
