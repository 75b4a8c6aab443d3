use Rattle.bridge_laws.proofs.WorkingOrderLaws.{order_is_done, done_is_answered}
use Rattle.bridge_laws.proofs.working_laws.what_is_written_in_order_is_the_answer.Goals as goal

pub returns-clause-done : goal.returns-clause-done
returns-clause-done c = order_is_done

pub returns-clause-answered : goal.returns-clause-answered
returns-clause-answered c = done_is_answered
