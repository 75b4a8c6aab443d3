use Rattle.std.specs.Prelude.{◌≡◌, map, take}
use Rattle.uno_values.specs.Values.{plain_of}
use Rattle.service_manager.proofs.arguments.list_of_anys.Given as goal

abbrev pub invariant-loop-any : goal.invariant-loop-any
invariant-loop-any l = map plain_of l.copies.items ≡ map plain_of (take l.any-index l.anys)
