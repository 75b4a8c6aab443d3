use Rattle.bridge_laws.proofs.OrderStopLaws.{stops_where_over, ends_where_over}
use Rattle.bridge_laws.proofs.order_stop_laws.the_order_stops_only_where_nothing_can_be_done.Goals as goal

pub returns-clause-stops : goal.returns-clause-stops
returns-clause-stops c = stops_where_over

pub returns-clause-ends : goal.returns-clause-ends
returns-clause-ends c = ends_where_over
