use Rattle.bridge_laws.proofs.WorkingOrderLaws.{begins_in_order}
use Rattle.bridge_laws.proofs.working_laws.an_end_begins_in_order.Goals as goal

pub returns : goal.returns
returns c = begins_in_order
