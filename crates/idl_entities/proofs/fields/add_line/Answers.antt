use Rattle.std.proofs.Common.{map}
use Rattle.idl_entities.proofs.FieldLemmas.{line_behind}
use Rattle.uno_entities.specs.Entities.{field_of}
use Rattle.uno_entities.specs.TypeNames.{kind_of}
use Rattle.idl_entities.proofs.fields.add_line.Goals as goal

pub returns : goal.returns
returns g c =
    line_behind (g.M.Meanings.telling c.args.meanings.now) c.args.line.now (kind_of c.in_ok-kind.kind) (map field_of c.args.members.now.items) _ c.as_slice.result.now
    c.as_slice.ensures.value c.in_ok-kind.ensures c.in_ok-add_members.ensures
