use Rattle.std.proofs.Common.{◌≡◌, map, take}
use Rattle.idl_entities.specs.Telling.{fields_told}
use Rattle.idl_trees.specs.Members.{fields_of}
use Rattle.uno_entities.specs.Entities.{field_of}
use Rattle.idl_entities.proofs.fields.fields_meant.Given as goal

abbrev pub invariant-loop-line : goal.invariant-loop-line
invariant-loop-line g l = map field_of l.members.items ≡ fields_told (g.M.Meanings.telling l.meanings) (map fields_of (take l.line-index l.fields))
