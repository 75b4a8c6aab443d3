use Rattle.std.proofs.Common.{◌≡◌, take}
use Rattle.idl_model.specs.Places.{Place}
use Rattle.idl_values.specs.Told.{mapped_at, number_told}
use Rattle.idl_values.proofs.told.told_by_map.Given as goal

abbrev pub invariant-loop-name : goal.invariant-loop-name
invariant-loop-name l = (p : Place) → mapped_at l.numbers p ≡ number_told (take l.name-index l.names) p
