use Rattle.std.proofs.Common.{◌≡◌, true}
use Rattle.graph_order.specs.Walk.{IsFine, StayReached, is_reached, work}
use Rattle.graph_order.proofs.order.visit.Given as goal

-- the walk is fine, and the node was reached
abbrev pub invariant-loop-step : goal.invariant-loop-step
invariant-loop-step l = record {
  fine : IsFine l.graph l.walk;
  reached : is_reached l.walk.reached.items l.node ≡ true;
  kept : StayReached l.fn.walk.reached.items l.walk.reached.items;
}

abbrev pub decreases-loop-step : goal.decreases-loop-step
decreases-loop-step l = work l.graph l.walk
