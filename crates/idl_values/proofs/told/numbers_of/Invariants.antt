use Rattle.std.proofs.Common.{◌≡◌, map, take}
use Rattle.idl_values.proofs.told.numbers_of.Given as goal

abbrev pub invariant-loop-name : goal.invariant-loop-name
invariant-loop-name l = l.numbers.items ≡ map (λ x. x.1) (take l.name-index l.names)
