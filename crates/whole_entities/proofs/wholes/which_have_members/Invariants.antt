use Rattle.std.proofs.Common.{◌≡◌, take}
use Rattle.uno_model.specs.Sound.{has_member}
use Rattle.uno_entities.specs.Entities.{entities_of}
use Rattle.rules_over_bases.specs.Known.{KnownMembers}
use Rattle.whole_entities.specs.Bare.{KnownBare}
use Rattle.whole_entities.proofs.MarkLemmas.{marks_of}
use Rattle.whole_entities.proofs.wholes.which_have_members.Given as goal

abbrev pub invariant-loop-place : goal.invariant-loop-place
invariant-loop-place l = record {
  marks : l.marks.items ≡ marks_of (has_member (entities_of l.entities)) (take l.place l.entities);
  known : KnownMembers (entities_of l.entities) l.known.items;
  bare : KnownBare (entities_of l.entities) l.bare.items;
}
