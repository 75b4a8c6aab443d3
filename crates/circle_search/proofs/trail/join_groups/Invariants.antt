use Rattle.std.proofs.Common.{◌≡◌, ℕ, ◌<◌, ◌≤◌, length, get_or, take}
use Rattle.circle_search.proofs.trail.join_groups.Given as goal

-- no start up to the place was taken off
abbrev pub invariant-loop-start : goal.invariant-loop-start
invariant-loop-start l = record {
  within : length l.starts.items ≤ length l.fn.starts.items;
  front : l.starts.items ≡ take (length l.starts.items) l.fn.starts.items;
  others : (k : ℕ) → length l.starts.items ≤ k → k < length l.fn.starts.items → l.place < get_or l.fn.starts.items k 0;
}

abbrev pub decreases-loop-start : goal.decreases-loop-start
decreases-loop-start l = length l.starts.items
