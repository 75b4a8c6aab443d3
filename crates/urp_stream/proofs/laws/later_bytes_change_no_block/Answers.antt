use Rattle.urp_stream.proofs.StandingLaws.{later_bytes}
use Rattle.urp_stream.proofs.laws.later_bytes_change_no_block.Goals as goal

pub returns : goal.returns
returns c = later_bytes
