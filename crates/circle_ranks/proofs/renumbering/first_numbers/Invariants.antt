use Rattle.std.proofs.Common.{◌≡◌, ◌≤◌, length}
use Rattle.circle_ranks.proofs.NumberLemmas.{AreKnownFrom}
use Rattle.circle_ranks.proofs.renumbering.first_numbers.Given as goal

abbrev pub invariant-loop-at : goal.invariant-loop-at
invariant-loop-at l = record {
  low : l.at ≤ length l.order;
  long : length l.numbers.items ≡ l.count;
  known : AreKnownFrom l.at l.count l.order l.numbers.items;
}

abbrev pub decreases-loop-at : goal.decreases-loop-at
decreases-loop-at l = l.at
