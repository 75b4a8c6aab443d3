use Rattle.std.specs.Prelude.{◌≡◌, ◌++◌, map, drop}
use Rattle.plan_model.specs.Asking.{out_values}
use Rattle.plan_types.specs.Frames.{variables_of}
use Rattle.type_registry.specs.Functions.{lent_function}
use Rattle.uno_values.specs.Values.{plain_of}
use Rattle.behaviour.proofs.functions.out_values.Given as goal

-- the values so far stand before those of the other parameters
abbrev pub invariant-loop-place : goal.invariant-loop-place
invariant-loop-place l =
    map plain_of l.values.items ++ out_values (drop l.place (lent_function l.function).params) (variables_of l.variables)
    ≡ out_values (lent_function l.function).params (variables_of l.variables)
