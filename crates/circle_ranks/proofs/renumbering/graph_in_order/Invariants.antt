use Rattle.std.proofs.Common.{◌≡◌, take}
use Rattle.circle_ranks.specs.Order.{graph_in_order}
use Rattle.circle_ranks.proofs.renumbering.graph_in_order.Given as goal

abbrev pub invariant-loop-node : goal.invariant-loop-node
invariant-loop-node l = l.ordered ≡ graph_in_order l.graph (take l.node-index l.order) l.numbers
