use Rattle.std.proofs.Common.{◌≡◌, min, take, ◌-◌, ◌^◌}
use Rattle.registry_reading_model.specs.Numbers as model
use Rattle.registry_reading.proofs.number.value.Given as goal

abbrev pub invariant-loop-digit : goal.invariant-loop-digit
invariant-loop-digit l = l.number ≡ min (model.read_on 0 (take l.digit-index l.digits)) (2 ^ 128 - 1)
