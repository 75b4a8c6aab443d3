use Rattle.std.proofs.Common.{◌∙◌}
use Rattle.uno_io.proofs.Finding.{front_is}
use Rattle.uno_io.proofs.mem_files.read_of.Goals as goal

pub returns-clause-read : goal.returns-clause-read
returns-clause-read c = front_is _ _ _ c.min.ensures (c.in_ok-read.ensures.items ∙ c.split_at.ensures.front)
