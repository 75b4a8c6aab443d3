use Rattle.std.specs.Prelude.{◌≡◌, ◌++◌, map, drop}
use Rattle.bridge_model.specs.References.{refs_of_values}
use Rattle.uno_values.specs.References.{ref_of}
use Rattle.uno_values.specs.Values.{plain_of}
use Rattle.bridge_tables.proofs.values.push_all.Given as goal

-- the references so far stand before those of the other values
abbrev pub invariant-loop-value : goal.invariant-loop-value
invariant-loop-value l =
    map ref_of l.all.items ++ refs_of_values (map plain_of (drop l.value-index l.values)) ≡ map ref_of l.fn.all.items ++ refs_of_values (map plain_of l.values)
