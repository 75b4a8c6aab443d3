use Rattle.world_laws.proofs.KeptLaws.{both_keep}
use Rattle.world_laws.proofs.kept_laws.what_two_joined_ends_keep.Goals as goal

pub returns : goal.returns
returns c = both_keep
