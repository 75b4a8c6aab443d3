use Rattle.std.proofs.Common.{◌≡◌, map, take}
use Rattle.uno_values.specs.References.{ref_of}
use Rattle.bridge_objects.specs.Tables.{lost_all}
use Rattle.bridge_objects.proofs.objects.Objects.lose_all.Given as goal

abbrev pub invariant-loop-place : goal.invariant-loop-place
invariant-loop-place l = l.self ≡ lost_all l.holder (map ref_of (take l.place l.references)) l.fn.self
