use Rattle.std.proofs.Common.{◌≡◌, ℕ, ◌<◌, true, false, replicate, length}
use Rattle.uno_entities.specs.Counts.{KnownFew}
use Rattle.uno_entities.specs.Entities.{entities_of}
use Rattle.registry_text_model.specs.WholeWithinLimits.{is_whole_within_limits}
use Rattle.rules_over_bases.specs.Known.{KeepsAt, KnownMembers}
use Rattle.rules_over_bases.proofs.whole.first_not_whole.Given as goal

abbrev pub invariant-loop-place : goal.invariant-loop-place
invariant-loop-place l =
    record {
      clear : l.reach.search.marks.items ≡ replicate (length l.entities) false;
      before : (k : ℕ) → k < l.place → KeepsAt (is_whole_within_limits (entities_of l.entities)) (entities_of l.entities) k true;
      few : KnownFew (entities_of l.entities) l.few.items;
      members : KnownMembers (entities_of l.entities) l.members.items;
    }
