use Rattle.world_laws.proofs.PairLaws.{pair_history}
use Rattle.world_laws.proofs.playing_laws.a_pair_is_a_history_of_its_world.Goals as goal

pub returns : goal.returns
returns c = pair_history
