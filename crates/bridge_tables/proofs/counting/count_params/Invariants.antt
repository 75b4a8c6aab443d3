use Rattle.std.specs.Prelude.{◌≡◌, drop}
use Rattle.message_model.specs.Calls.{kinds_on}
use Rattle.type_registry.specs.Functions.{lent_function}
use Rattle.urp_model.specs.Namings.{namings_each}
use Rattle.uno_values.specs.Values.{plains_of}
use Rattle.bridge_tables.specs.Counted.{counted, with_stubs, carries}
use Rattle.bridge_tables.proofs.counting.count_params.Given as goal

-- the rest counts what all count, and nothing but the stubs has changed
abbrev pub invariant-loop-place : goal.invariant-loop-place
invariant-loop-place l =
    (counted (namings_each l.registry (plains_of l.rest) (kinds_on (carries l.phase) (drop l.place (lent_function l.function).params))) l.objects
    ≡ counted (namings_each l.registry (plains_of l.values) (kinds_on (carries l.phase) (lent_function l.function).params)) l.fn.objects)
    × (with_stubs l.fn.objects.stubs l.objects ≡ l.fn.objects)
