use Rattle.world_laws.proofs.GivingLaws.{pair_keeps}
use Rattle.world_laws.proofs.doing_laws.what_a_pair_keeps.Goals as goal

pub returns : goal.returns
returns c = pair_keeps
