use Rattle.std.proofs.Common.{◌≡◌, take}
use Rattle.circle_ranks.specs.Order.{renumbered}
use Rattle.circle_ranks.proofs.renumbering.renumbered.Given as goal

abbrev pub invariant-loop-target : goal.invariant-loop-target
invariant-loop-target l = l.row.items ≡ renumbered l.numbers (take l.target-index l.targets)
