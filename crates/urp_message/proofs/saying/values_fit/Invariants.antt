use Rattle.std.specs.Prelude.{◌↔◌, map, drop}
use Rattle.message_model.specs.Calls.{kinds_on}
use Rattle.message_model.specs.Sayable.{Fill}
use Rattle.type_registry.specs.Functions.{lent_function}
use Rattle.uno_values.specs.Values.{plain_of}
use Rattle.urp_message.specs.Params.{carries}
use Rattle.urp_message.proofs.saying.values_fit.Given as goal

-- what is left fits exactly where all does
abbrev pub invariant-loop-place : goal.invariant-loop-place
invariant-loop-place l =
    Fill l.registry (map plain_of l.rest) (kinds_on (carries l.phase) (drop l.place (lent_function l.function).params))
    ↔ Fill l.registry (map plain_of l.values) (kinds_on (carries l.phase) (lent_function l.function).params)
