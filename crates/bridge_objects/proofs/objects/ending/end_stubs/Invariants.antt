use Rattle.std.proofs.Common.{◌≡◌, length}
use Rattle.uno_values.specs.Values.{plain_of}
use Rattle.bridge_objects.specs.Marks.{free_at, AreMarked}
use Rattle.bridge_objects.specs.Objects.{objects_of}
use Rattle.bridge_objects.proofs.objects.ending.end_stubs.Given as goal

abbrev pub invariant-loop-oid : goal.invariant-loop-oid
invariant-loop-oid l =
    record {
      marked : AreMarked (free_at l.prefix l.first l.environment l.stubs) l.store.rows;
      objects : objects_of plain_of l.store.rows ≡ objects_of plain_of l.fn.store.rows;
      made : l.store.made ≡ l.fn.store.made;
    }

abbrev pub decreases-loop-oid : goal.decreases-loop-oid
decreases-loop-oid l = length l.stubs
