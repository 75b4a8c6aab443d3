use Rattle.std.specs.Prelude.{◌≡◌, ◌++◌, drop, map}
use Rattle.bridge_model.specs.Objects.{as_variables}
use Rattle.plan_types.specs.Frames.{variables_of}
use Rattle.uno_entities.specs.Entities.{field_of}
use Rattle.uno_values.specs.Values.{plain_of}
use Rattle.bridge_state.proofs.fields.named_fields.Given as goal

-- the rest stands behind what is named so far
abbrev pub invariant-loop-place : goal.invariant-loop-place
invariant-loop-place l =
    variables_of l.variables.items ++ as_variables (map field_of (drop l.place l.fields)) (map plain_of (drop l.place l.values)) ≡ as_variables (map field_of l.fields) (map plain_of l.values)
