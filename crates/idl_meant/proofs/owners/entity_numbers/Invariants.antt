use Rattle.std.proofs.Common.{◌≡◌, map, take}
use Rattle.idl_meant.specs.Owning.{entity_number}
use Rattle.idl_meant.proofs.owners.entity_numbers.Given as goal

abbrev pub invariant-loop-declared : goal.invariant-loop-declared
invariant-loop-declared l = l.numbers.items ≡ map entity_number (take l.declared-index l.all)
