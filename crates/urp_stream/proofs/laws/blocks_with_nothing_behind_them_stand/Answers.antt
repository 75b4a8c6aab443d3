use Rattle.urp_stream.proofs.RefusedLaws.{alone_stand}
use Rattle.urp_stream.proofs.laws.blocks_with_nothing_behind_them_stand.Goals as goal

pub returns : goal.returns
returns c = alone_stand
