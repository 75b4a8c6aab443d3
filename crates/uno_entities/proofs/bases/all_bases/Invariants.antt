use Rattle.std.proofs.Common.{◌≡◌, length}
use Rattle.uno_entities.proofs.bases.all_bases.Given as goal

abbrev pub invariant-loop-place : goal.invariant-loop-place
invariant-loop-place l = length l.search.marks.items ≡ length l.entities
