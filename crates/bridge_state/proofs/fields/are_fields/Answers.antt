use Rattle.std.proofs.Common.{◌≡◌, arith, map, sym, ◌∙◌}
use Rattle.bridge_model.specs.Objects.{as_variables}
use Rattle.plan_types.specs.Frames.{variables_of}
use Rattle.uno_entities.specs.Entities.{field_of}
use Rattle.uno_values.specs.Values.{plain_of}
use Rattle.bridge_state.proofs.FieldLemmas.{same_all, other_length}
use Rattle.bridge_state.proofs.fields.are_fields.Goals as goal

pub returns-then-variables-min : goal.returns-then-variables-min
returns-then-variables-min c = other_length c.args.fields.now c.args.values.now c.args.variables.now (λ same. c.if-variables-min.true (same ∙ sym c.min.ensures))

pub returns : goal.returns
returns c =
    same_all c.args.fields.now c.args.values.now c.args.variables.now c.loop-place.place (as_variables (map field_of c.args.fields.now) (map plain_of c.args.values.now) ≡ variables_of c.args.variables.now)
    (omega (arith, c.loop-place-test.false, c.loop-place.invariant.as_many)) (omega (arith, c.loop-place-test.false)) c.loop-place.invariant.both
