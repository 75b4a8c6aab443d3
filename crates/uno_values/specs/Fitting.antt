-- The types of members.
use Rattle.std.specs.Prelude.{List, map}
use Rattle.uno_model.specs.Kinds.{Kind}
use Rattle.std.specs.Borrow.{Bor}
use Rattle.uno_entities.specs.Entities.{field_of}
use Rattle.uno_types.specs.Members.{fields_at}
use Rattle.uno_entities.specs.declared.entity.Field.{Field}

abbrev pub kinds_of : List Field → List Kind
kinds_of fields = map (λ f. f.kind) (map field_of fields)

abbrev pub kinds_at : List (Bor Field) → List Kind
kinds_at fields = map (λ f. f.kind) (fields_at fields)
