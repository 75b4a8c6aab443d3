use Rattle.std.proofs.Common.{◌≡◌, ◌++◌, map, take}
use Rattle.uno_entities.specs.Entities.{field_of}
use Rattle.registry_text_model.specs.Lines.{field_line, text_of}
use Rattle.reg_text.proofs.parts.push_fields.Given as goal

abbrev pub invariant-loop-field : goal.invariant-loop-field
invariant-loop-field l = l.text.items ≡ l.fn.text.items ++ text_of (map field_line (map field_of (take l.field-index l.fields)))
