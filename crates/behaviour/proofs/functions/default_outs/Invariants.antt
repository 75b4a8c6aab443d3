use Rattle.std.specs.Prelude.{◌≡◌, ◌++◌, map, drop}
use Rattle.message_model.specs.Calls.{comes, kinds_on}
use Rattle.type_registry.specs.Functions.{lent_function}
use Rattle.uno_model.specs.Defaults.{default_of_kind}
use Rattle.uno_values.specs.Values.{plain_of}
use Rattle.behaviour.proofs.functions.default_outs.Given as goal

-- the defaults so far stand before those of the other parameters
abbrev pub invariant-loop-place : goal.invariant-loop-place
invariant-loop-place l =
    map plain_of l.values.items ++ map (default_of_kind l.registry) (kinds_on comes (drop l.place (lent_function l.function).params))
    ≡ map (default_of_kind l.registry) (kinds_on comes (lent_function l.function).params)
