use Rattle.world_laws.proofs.GivingLaws.{reached_give}
use Rattle.world_laws.proofs.doing_laws.the_roots_of_a_pair_give_what_they_may.Goals as goal

pub returns : goal.returns
returns c = reached_give
