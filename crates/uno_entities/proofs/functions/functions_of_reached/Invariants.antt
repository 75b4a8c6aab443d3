use Rattle.std.proofs.Common.{◌≡◌, ◌+◌, ◌-◌, ◌^◌, ◌≤◌, min, length}
use Rattle.uno_entities.specs.Counts.{marked_functions}
use Rattle.uno_entities.specs.Entities.{entities_of}
use Rattle.uno_entities.proofs.ReachLemmas.{IsAhead}
use Rattle.uno_entities.proofs.functions.functions_of_reached.Given as goal

abbrev pub invariant-loop-index : goal.invariant-loop-index
invariant-loop-index l =
    record {
      long : length l.reach.search.marks.items ≡ length l.entities;
      places : l.reach.places.items ≡ l.fn.reach.places.items;
      ahead : IsAhead l.reach.search.marks.items l.fn.reach.places.items l.index;
      low : l.total ≤ 2 ^ 64 - 1;
      count : min (l.total + marked_functions l.reach.search.marks.items (entities_of l.entities)) (2 ^ 64 - 1)
          ≡ min (marked_functions l.fn.reach.search.marks.items (entities_of l.entities)) (2 ^ 64 - 1);
    }
