use Rattle.std.proofs.Common.{◌≡◌, length}
use Rattle.uno_entities.proofs.ReachLemmas.{IsAhead}
use Rattle.uno_entities.proofs.bases.unmark.Given as goal

abbrev pub invariant-loop-index : goal.invariant-loop-index
invariant-loop-index l =
    record {
      long : length l.reach.search.marks.items ≡ length l.fn.reach.search.marks.items;
      places : l.reach.places.items ≡ l.fn.reach.places.items;
      ahead : IsAhead l.reach.search.marks.items l.fn.reach.places.items l.index;
    }
