use Rattle.std.specs.Prelude.{◌≡◌, map, take}
use Rattle.uno_values.specs.Values.{plain_of}
use Rattle.uno_values.proofs.+copy.Given as goal

abbrev pub invariant-copy::copy_all-loop-value : goal.invariant-copy::copy_all-loop-value
invariant-copy::copy_all-loop-value l = map plain_of l.copies.items ≡ map plain_of (take l.value-index l.values)
