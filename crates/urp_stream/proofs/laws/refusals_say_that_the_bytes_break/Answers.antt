use Rattle.urp_stream.proofs.RunLaws.{run_breaks}
use Rattle.urp_stream.proofs.laws.refusals_say_that_the_bytes_break.Goals as goal

pub returns : goal.returns
returns c = run_breaks
