use Rattle.std.proofs.Common.{◌≡◌, take}
use Rattle.idl_meant.specs.Using.{numbered_from}
use Rattle.idl_meant.proofs.uses.numbered.Given as goal

abbrev pub invariant-loop-found : goal.invariant-loop-found
invariant-loop-found l = (l.places.items ≡ numbered_from 0 (take l.found-index l.uses)) × (l.number ≡ l.found-index)
