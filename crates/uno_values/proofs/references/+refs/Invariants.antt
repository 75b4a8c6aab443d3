use Rattle.std.specs.Prelude.{◌≡◌, ◌++◌, map, drop}
use Rattle.uno_model.specs.Values.{refs_in}
use Rattle.uno_values.specs.References.{ref_of}
use Rattle.uno_values.specs.Values.{plains_of}
use Rattle.uno_values.proofs.references.+refs.Given as goal

abbrev pub invariant-push_all-loop-value : goal.invariant-push_all-loop-value
invariant-push_all-loop-value l =
    map ref_of l.found.items ++ refs_in (plains_of (drop l.value-index l.values)) ≡ map ref_of l.fn.found.items ++ refs_in (plains_of l.values)
