use Rattle.uno_entities.specs.Entities.{field_of}
use Rattle.uno_model.specs.Defaults.{default_of_kind}
use Rattle.uno_values.specs.Values.{plain_of}
use Rattle.bridge_tables.proofs.PushLemmas.{made_more}
use Rattle.bridge_tables.proofs.objects.defaults_of.Goals as goal

pub loop-field-preserved : goal.loop-field-preserved
loop-field-preserved c =
    made_more plain_of field_of (λ f. default_of_kind c.args.registry.now f.kind) c.loop-field.values.items c.push.new.self.items c.in-Ok.value c.args.fields.now c.loop-field.field-index c.field-item.result
    c.loop-field-test.true c.field-item.is c.in-Ok.ensures c.in_default-push.ensures.items c.loop-field.invariant
