use Rattle.std.proofs.Common.{◌≡◌, length}
use Rattle.rules_over_bases.proofs.forest.under_tops.Given as goal

abbrev pub invariant-loop-index : goal.invariant-loop-index
invariant-loop-index l = length l.marks.items ≡ length l.entities
