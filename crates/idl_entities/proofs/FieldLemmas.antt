-- A line of a struct, as members with one type.
use Rattle.std.proofs.Common.{◌≡◌, refl, ap, ◌∙◌, List, [], ◌∷◌, ◌++◌, map}
use Rattle.idl_entities.specs.Members.{member_of}
use Rattle.idl_entities.specs.Telling.{Telling, line_told, type_told}
use Rattle.idl_meaning_model.specs.Meaning.{type_meant}
use Rattle.idl_model.specs.Trees as tree
use Rattle.idl_trees.specs.Members.{fields_of}
use Rattle.idl_trees.specs.Names.{id_of}
use Rattle.idl_trees.specs.Types.{type_of}
use Rattle.idl_trees.specs.declared.member.Fields.{Fields}
use Rattle.idl_trees.specs.declared.name.Id.{Id}
use Rattle.registry_reading_model.specs.Changes.{Change, field_changed}
use Rattle.uno_model.specs.Entities.{Field}
use Rattle.uno_model.specs.Kinds.{Kind}

abbrev plain_member : Kind → tree.Id → Field
plain_member k id = record { name = id.name; kind = k }

each_name : (c : Change) (k : Kind) (ids : List Id) → map (member_of (c.kind k)) ids ≡ map (field_changed c) (map (plain_member k) (map id_of ids))
each_name c k [] = refl
each_name c k (id ∷ ids) = ap (λ rest. member_of (c.kind k) id ∷ rest) (each_name c k ids)

line_is_told : (t : Telling) (line : Fields) (k : Kind) → k ≡ type_told t (type_of line.kind) → map (member_of k) line.names.items ≡ line_told t (fields_of line)
line_is_told t line k is =
    ap (λ j. map (member_of j) line.names.items) is ∙ each_name t.kept (type_meant t.all t.declared.modules (type_of line.kind)) line.names.items

-- the members of a line behind those that there are
pub line_behind : (t : Telling) (line : Fields) (k : Kind) (now new : List Field) (ids : List Id) → ids ≡ line.names.items → k ≡ type_told t (type_of line.kind)
    → new ≡ now ++ map (member_of k) ids → new ≡ now ++ line_told t (fields_of line)
line_behind t line k now new ids all is more =
    more ∙ ap (λ j. now ++ map (member_of k) j) all ∙ ap (λ j. now ++ j) (line_is_told t line k is)
