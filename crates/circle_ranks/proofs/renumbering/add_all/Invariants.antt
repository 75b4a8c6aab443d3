use Rattle.std.proofs.Common.{◌≡◌, ◌++◌}
use Rattle.circle_ranks.specs.Order.{below}
use Rattle.circle_ranks.proofs.renumbering.add_all.Given as goal

abbrev pub invariant-loop-number : goal.invariant-loop-number
invariant-loop-number l = l.order.items ≡ l.fn.order.items ++ below l.number
