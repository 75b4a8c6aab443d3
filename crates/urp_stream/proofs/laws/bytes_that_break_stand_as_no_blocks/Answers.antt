use Rattle.urp_stream.proofs.CutLaws.{breaks_stand_as_none, breaks_stay}
use Rattle.urp_stream.proofs.laws.bytes_that_break_stand_as_no_blocks.Goals as goal

pub returns-clause-never : goal.returns-clause-never
returns-clause-never c = breaks_stand_as_none

pub returns-clause-stays : goal.returns-clause-stays
returns-clause-stays c = breaks_stay
