use Rattle.std.proofs.Common.{◌≡◌, replicate, false, length}
use Rattle.uno_entities.specs.Entities.{entities_of}
use Rattle.rules_over_bases.specs.Known.{KnownToDiffer}
use Rattle.rules_over_bases.specs.Trail.{Follows}
use Rattle.rules_over_bases.proofs.walk.known_to_differ.Given as goal

abbrev pub invariant-loop-place : goal.invariant-loop-place
invariant-loop-place l =
    record {
      known : KnownToDiffer (entities_of l.entities) l.known.items;
      follows : Follows (entities_of l.entities) l.trail;
      clear : l.reach.search.marks.items ≡ replicate (length l.entities) false;
    }
