use Rattle.std.specs.Prelude.{◌≡◌, map, take}
use Rattle.uno_entities.specs.Entities.{field_of}
use Rattle.uno_entities.proofs.entity_copies.copy_fields.Given as goal

abbrev pub invariant-loop-field : goal.invariant-loop-field
invariant-loop-field l = map field_of l.copies.items ≡ map field_of (take l.field-index l.fields)
