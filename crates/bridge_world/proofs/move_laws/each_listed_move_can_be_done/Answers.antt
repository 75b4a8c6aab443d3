use Rattle.bridge_world.proofs.MoveLaws.{moves_can}
use Rattle.bridge_world.proofs.move_laws.each_listed_move_can_be_done.Goals as goal

pub returns : goal.returns
returns c = moves_can
