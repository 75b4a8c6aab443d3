use Rattle.std.specs.Prelude.{◌↔◌, map, drop}
use Rattle.message_model.specs.Calls.{goes, kinds_on}
use Rattle.type_registry.specs.Functions.{lent_function}
use Rattle.uno_model.specs.Fits.{FitEach}
use Rattle.uno_model.specs.Values.{plains}
use Rattle.uno_values.specs.Values.{plain_of}
use Rattle.bridge_core.proofs.giving.arguments_fit.Given as goal

-- what is left fits where all does
abbrev pub invariant-loop-place : goal.invariant-loop-place
invariant-loop-place l =
    FitEach l.registry (plains (map plain_of l.rest)) (kinds_on goes (drop l.place (lent_function l.function).params))
    ↔ FitEach l.registry (plains (map plain_of l.args)) (kinds_on goes (lent_function l.function).params)
