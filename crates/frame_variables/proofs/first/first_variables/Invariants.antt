use Rattle.std.specs.Prelude.{◌≡◌, ◌++◌, map, drop}
use Rattle.plan_model.specs.Holdings.{first_variables}
use Rattle.plan_types.specs.Frames.{variables_of}
use Rattle.type_registry.specs.Functions.{lent_function}
use Rattle.uno_values.specs.Values.{plain_of}
use Rattle.frame_variables.specs.Given.{left}
use Rattle.frame_variables.proofs.first.first_variables.Given as goal

-- the variables so far stand before those of the other parameters
abbrev pub invariant-loop-place : goal.invariant-loop-place
invariant-loop-place l =
    variables_of l.variables.items ++ first_variables l.registry (drop l.place (lent_function l.function).params) (left l.given)
    ≡ first_variables l.registry (lent_function l.function).params (map plain_of l.fn.args.items)
