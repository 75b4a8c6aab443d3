use Rattle.std.proofs.Common.{◌≡◌, ◌++◌, map, take}
use Rattle.idl_entities.specs.Members.{member_of}
use Rattle.uno_entities.specs.Entities.{field_of}
use Rattle.uno_entities.specs.TypeNames.{kind_of}
use Rattle.idl_entities.proofs.fields.add_members.Given as goal

abbrev pub invariant-loop-id : goal.invariant-loop-id
invariant-loop-id l = map field_of l.members.items ≡ map field_of l.fn.members.items ++ map (member_of (kind_of l.kind)) (take l.id-index l.names)
