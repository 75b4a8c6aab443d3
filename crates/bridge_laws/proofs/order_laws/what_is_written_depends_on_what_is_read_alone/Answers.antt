use Rattle.bridge_laws.proofs.OrderLaws.{one_answer}
use Rattle.bridge_laws.proofs.order_laws.what_is_written_depends_on_what_is_read_alone.Goals as goal

pub returns : goal.returns
returns c = one_answer
