use Rattle.urp_stream.proofs.RunLaws.{runs_agree}
use Rattle.urp_stream.proofs.laws.runs_that_took_the_same_bytes_agree.Goals as goal

pub returns : goal.returns
returns c = runs_agree
