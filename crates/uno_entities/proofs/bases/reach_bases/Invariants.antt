use Rattle.std.proofs.Common.{◌≡◌, ◌+◌, ◌*◌, Some, length}
use Rattle.std.specs.Prelude.{slice_get}
use Rattle.uno_model.specs.Entities.{Entity}
use Rattle.uno_entities.specs.Entities.{entities_of}
use Rattle.uno_entities.specs.Spreading.{Searched, unmarked}
use Rattle.uno_entities.proofs.ReachLemmas.{IsWaiting, IsListed, ListsMarked}
use Rattle.uno_entities.proofs.bases.reach_bases.Given as goal

abbrev pub invariant-loop-next : goal.invariant-loop-next
invariant-loop-next l =
    record {
      long : length l.reach.search.marks.items ≡ length l.entities;
      waiting : IsWaiting (length l.entities) l.reach.search.marks.items l.reach.search.pending.items;
      searched : (e : Entity) → slice_get (entities_of l.entities) l.place ≡ Some e → Searched (entities_of l.entities) e.name l.reach.search.marks.items l.reach.search.pending.items;
      listed : IsListed l.reach.search.marks.items l.reach.search.pending.items l.reach.places.items;
      marked : ListsMarked l.reach.search.marks.items l.reach.places.items;
    }

abbrev pub decreases-loop-next : goal.decreases-loop-next
decreases-loop-next l = 2 * unmarked l.reach.search.marks.items + length l.reach.search.pending.items
