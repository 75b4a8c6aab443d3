use Rattle.std.proofs.Common.{◌≡◌, ℕ, ◌<◌, Some, false, replicate, length}
use Rattle.std.specs.Prelude.{slice_get}
use Rattle.uno_entities.specs.Counts.{FewAt, KnownFew}
use Rattle.uno_entities.specs.Entities.{entities_of}
use Rattle.uno_entities.proofs.few_functions.others_have_few.Given as goal

abbrev pub invariant-loop-place : goal.invariant-loop-place
invariant-loop-place l =
    record {
      few : (k : ℕ) → k < l.place → slice_get l.later k ≡ Some false → FewAt (entities_of l.entities) k;
      known : KnownFew (entities_of l.entities) l.known;
      clear : l.reach.search.marks.items ≡ replicate (length l.entities) false;
    }
