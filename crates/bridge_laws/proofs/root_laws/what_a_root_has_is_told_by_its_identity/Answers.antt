use Rattle.bridge_laws.proofs.ToldRunLaws.{own_told_right}
use Rattle.bridge_laws.proofs.root_laws.what_a_root_has_is_told_by_its_identity.Goals as goal

pub returns : goal.returns
returns c = own_told_right
