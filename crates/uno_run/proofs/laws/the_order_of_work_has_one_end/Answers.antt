use Rattle.uno_run.proofs.EndingLaws.{one_end}
use Rattle.uno_run.proofs.laws.the_order_of_work_has_one_end.Goals as goal

pub returns : goal.returns
returns c = one_end
