use Rattle.std.proofs.Common.{◌≡◌, ℕ, ◌<◌, true, false, replicate, length}
use Rattle.uno_entities.specs.Entities.{entities_of}
use Rattle.registry_text_model.specs.NamesDiffer.{names_differ}
use Rattle.rules_over_bases.specs.Known.{KeepsAt, KnownToDiffer}
use Rattle.rules_over_bases.proofs.twins.first_with_twins.Given as goal

abbrev pub invariant-loop-place : goal.invariant-loop-place
invariant-loop-place l =
    record {
      clear : l.reach.search.marks.items ≡ replicate (length l.entities) false;
      before : (k : ℕ) → k < l.place → KeepsAt (names_differ (entities_of l.entities)) (entities_of l.entities) k true;
      known : KnownToDiffer (entities_of l.entities) l.known.items;
    }
