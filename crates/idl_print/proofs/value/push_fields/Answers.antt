use Rattle.std.proofs.Common.{sym}
use Rattle.uno_entities.specs.Entities.{field_of}
use Rattle.registry_text_model.specs.Canonical.{field_tokens}
use Rattle.idl_print.proofs.TokenLemmas.{each_more, no_tokens}
use Rattle.idl_print.proofs.value.push_fields.Goals as goal

pub loop-field-init : goal.loop-field-init
loop-field-init c = sym (no_tokens c.args.text.now.items)

pub loop-field-preserved : goal.loop-field-preserved
loop-field-preserved c = each_more c.args.fields.now c.loop-field.field-index c.field-item.result _ _ _ field_of field_tokens c.loop-field-test.true c.field-item.is c.loop-field.invariant c.in_ok-push_field.ensures
