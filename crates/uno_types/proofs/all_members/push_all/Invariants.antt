use Rattle.std.specs.Prelude.{◌≡◌, ◌++◌, map, take}
use Rattle.uno_entities.specs.Entities.{field_of}
use Rattle.uno_types.specs.Members.{fields_at}
use Rattle.uno_types.proofs.all_members.push_all.Given as goal

abbrev pub invariant-loop-field : goal.invariant-loop-field
invariant-loop-field l = fields_at l.all.items ≡ fields_at l.fn.all.items ++ map field_of (take l.field-index l.own)
