use Rattle.world_laws.proofs.GivingLaws.{each_done}
use Rattle.world_laws.proofs.doing_laws.each_move_of_a_pair_can_be_done.Goals as goal

pub returns : goal.returns
returns c = each_done
