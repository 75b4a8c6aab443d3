use Rattle.std.proofs.Common.{◌≡◌, length}
use Rattle.rules_over_bases.proofs.forest.forest_of.Given as goal

abbrev pub invariant-loop-place : goal.invariant-loop-place
invariant-loop-place l = length l.links.items ≡ length l.entities
