use Rattle.std.proofs.Common.{◌≡◌, length}
use Rattle.indexmap.specs.IndexMap.{IsUnique}
use Rattle.pair_map.specs.ByOid.{pair_rows}
use Rattle.std.specs.Str.{bytes_eq}
use Rattle.pair_map.proofs.by_oid.take_oid.Given as goal

abbrev pub invariant-loop-oid : goal.invariant-loop-oid
invariant-loop-oid g l =
    record {
      rows : pair_rows l.by_oid.entries ≡ pair_rows l.fn.by_oid.entries;
      unique : IsUnique bytes_eq l.by_oid;
    }

abbrev pub decreases-loop-oid : goal.decreases-loop-oid
decreases-loop-oid g l = length l.by_oid.entries
