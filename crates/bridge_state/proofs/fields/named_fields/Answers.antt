use Rattle.std.proofs.Common.{arith, rules, map}
use Rattle.bridge_model.specs.Objects.{as_variables}
use Rattle.uno_entities.specs.Entities.{field_of}
use Rattle.uno_values.specs.Values.{plain_of}
use Rattle.bridge_state.proofs.FieldLemmas.{named_next, named_done}
use Rattle.bridge_state.proofs.fields.named_fields.Goals as goal

pub loop-place-preserved : goal.loop-place-preserved
loop-place-preserved c =
    let less = c.loop-place-test.true in let least = c.min-place-end.ensures in
    named_next c.args.fields.now c.args.values.now c.loop-place.place c.index-fields-place.result c.index-values-place.result c.loop-place.variables.items c.push_field.new.variables.items
    (as_variables (map field_of c.args.fields.now) (map plain_of c.args.values.now)) (omega (arith, less, least)) (omega (arith, less, least)) c.index-fields-place.is c.index-values-place.is c.in_default.ensures c.loop-place.invariant

pub returns : goal.returns
returns c =
    named_done c.args.fields.now c.args.values.now c.loop-place.place c.loop-place.variables.items (as_variables (map field_of c.args.fields.now) (map plain_of c.args.values.now))
    (omega (arith, c.loop-place-test.false, c.min-place-end.ensures)) c.loop-place.invariant
