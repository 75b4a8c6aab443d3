use Rattle.std.proofs.Common.{◌≡◌, length}
use Rattle.uno_entities.specs.Entities.{entities_of}
use Rattle.uno_entities.proofs.ReachLemmas.{IsAhead}
use Rattle.rules_over_bases.proofs.OverLemmas.{SeenSoFar}
use Rattle.rules_over_bases.proofs.over.reached_differ.Given as goal

abbrev pub invariant-loop-index : goal.invariant-loop-index
invariant-loop-index l =
    record {
      long : length l.reach.search.marks.items ≡ length l.entities;
      places : l.reach.places.items ≡ l.fn.reach.places.items;
      ahead : IsAhead l.reach.search.marks.items l.fn.reach.places.items l.index;
      names : SeenSoFar l.seen (entities_of l.entities) l.fn.reach.search.marks.items l.reach.search.marks.items;
    }
