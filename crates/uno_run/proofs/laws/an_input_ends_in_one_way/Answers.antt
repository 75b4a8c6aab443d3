use Rattle.uno_run.proofs.EndingLaws.{one_way}
use Rattle.uno_run.proofs.laws.an_input_ends_in_one_way.Goals as goal

pub returns : goal.returns
returns c = one_way
