use Rattle.std.proofs.Common.{sym}
use Rattle.uno_entities.specs.Entities.{field_of}
use Rattle.registry_text_model.specs.Lines.{field_line}
use Rattle.reg_text.proofs.TextLemmas.{line_more, no_lines}
use Rattle.reg_text.proofs.parts.push_fields.Goals as goal

pub loop-field-init : goal.loop-field-init
loop-field-init c = sym (no_lines c.args.text.now.items)

pub loop-field-preserved : goal.loop-field-preserved
loop-field-preserved c = line_more c.args.fields.now c.loop-field.field-index c.field-item.result _ _ _ field_of field_line c.loop-field-test.true c.field-item.is c.loop-field.invariant c.in_ok-push_field.ensures
