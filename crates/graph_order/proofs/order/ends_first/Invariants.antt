use Rattle.std.proofs.Common.{◌≡◌, ℕ, ◌<◌, [], true}
use Rattle.graph_order.specs.Walk.{IsFine, is_reached}
use Rattle.graph_order.proofs.order.ends_first.Given as goal

-- the nodes so far were reached, and the way is empty
abbrev pub invariant-loop-node : goal.invariant-loop-node
invariant-loop-node l = record {
  fine : IsFine l.graph l.walk;
  empty : l.walk.way.items ≡ [];
  reached : (i : ℕ) → i < l.node → is_reached l.walk.reached.items i ≡ true;
}
