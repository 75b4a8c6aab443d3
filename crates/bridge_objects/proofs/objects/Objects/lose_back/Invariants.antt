use Rattle.std.proofs.Common.{◌≡◌, map, take}
use Rattle.uno_values.specs.References.{ref_of}
use Rattle.bridge_objects.specs.Kept.{Kept}
use Rattle.bridge_objects.specs.Tables.{gained_all}
use Rattle.bridge_objects.proofs.objects.Objects.lose_back.Given as goal

abbrev pub invariant-loop-place : goal.invariant-loop-place
invariant-loop-place l = (k : Kept) → l.fn.self ≡ gained_all l.holder (map ref_of (take l.count l.references)) k → l.self ≡ gained_all l.holder (map ref_of (take l.place l.references)) k
