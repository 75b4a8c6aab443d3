use Rattle.urp_stream.proofs.StandingLaws.{stands_as_one}
use Rattle.urp_stream.proofs.laws.bytes_stand_as_one_list_of_blocks.Goals as goal

pub returns : goal.returns
returns c = stands_as_one
