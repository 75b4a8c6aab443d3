use Rattle.std.proofs.Common.{◌≡◌, ◌++◌, map, take}
use Rattle.std.specs.List.{flat_map}
use Rattle.uno_entities.specs.Entities.{field_of}
use Rattle.registry_text_model.specs.Canonical.{field_tokens}
use Rattle.idl_print.specs.Tokens.{followed}
use Rattle.idl_print.proofs.value.push_fields.Given as goal

abbrev pub invariant-loop-field : goal.invariant-loop-field
invariant-loop-field l = l.text.items ≡ l.fn.text.items ++ followed (flat_map field_tokens (map field_of (take l.field-index l.fields)))
