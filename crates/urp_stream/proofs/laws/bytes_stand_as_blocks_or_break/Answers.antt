use Rattle.urp_stream.proofs.CutLaws.{stands_or_breaks}
use Rattle.urp_stream.proofs.laws.bytes_stand_as_blocks_or_break.Goals as goal

pub returns : goal.returns
returns c = stands_or_breaks
