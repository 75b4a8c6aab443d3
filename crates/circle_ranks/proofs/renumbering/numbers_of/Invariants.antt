use Rattle.std.proofs.Common.{◌≡◌, map, take}
use Rattle.circle_ranks.proofs.renumbering.numbers_of.Given as goal

abbrev pub invariant-loop-node : goal.invariant-loop-node
invariant-loop-node l = l.order.items ≡ map (λ n. n.number) (take l.node-index l.nodes)
