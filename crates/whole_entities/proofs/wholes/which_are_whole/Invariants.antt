use Rattle.std.proofs.Common.{◌≡◌, false, length, replicate, take}
use Rattle.uno_entities.specs.Counts.{KnownFew}
use Rattle.uno_entities.specs.Entities.{entities_of}
use Rattle.registry_text_model.specs.WholeWithinLimits.{is_whole_within_limits}
use Rattle.whole_entities.proofs.MarkLemmas.{marks_of}
use Rattle.whole_entities.proofs.wholes.which_are_whole.Given as goal

abbrev pub invariant-loop-place : goal.invariant-loop-place
invariant-loop-place l = record {
  whole : l.whole.items ≡ marks_of (is_whole_within_limits (entities_of l.entities)) (take l.place l.entities);
  few : KnownFew (entities_of l.entities) l.few.items;
  clear : l.reach.search.marks.items ≡ replicate (length l.entities) false;
}
