use Rattle.std.specs.Prelude.{◌≡◌, drop, is_some}
use Rattle.plan_model.specs.Roots.{next_loose}
use Rattle.uno_model.specs.Values.{refs_in}
use Rattle.uno_values.specs.Values.{plains_of}
use Rattle.bridge_world.proofs.references.+refs.Given as goal

abbrev pub invariant-some_has_reference-loop-value : goal.invariant-some_has_reference-loop-value
invariant-some_has_reference-loop-value l = is_some (next_loose (refs_in (plains_of (drop l.value-index l.values)))) ≡ is_some (next_loose (refs_in (plains_of l.values)))
