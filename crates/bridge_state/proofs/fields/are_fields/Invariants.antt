use Rattle.std.specs.Prelude.{◌≡◌, ◌↔◌, length, map, drop, min}
use Rattle.bridge_model.specs.Objects.{as_variables}
use Rattle.plan_types.specs.Frames.{variables_of}
use Rattle.uno_entities.specs.Entities.{field_of}
use Rattle.uno_values.specs.Values.{plain_of}
use Rattle.bridge_state.proofs.fields.are_fields.Given as goal

-- the rest is the same where all is
abbrev pub invariant-loop-place : goal.invariant-loop-place
invariant-loop-place l = record {
  as_many : length l.variables ≡ min (length l.fields) (length l.values);
  both : as_variables (map field_of (drop l.place l.fields)) (map plain_of (drop l.place l.values)) ≡ variables_of (drop l.place l.variables) ↔ as_variables (map field_of l.fields) (map plain_of l.values) ≡ variables_of l.variables;
}
