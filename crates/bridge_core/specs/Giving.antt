-- The types of what goes with a call.
use Rattle.std.specs.Borrow.{Bor}
use Rattle.std.specs.Prelude.{List, [], ◌∷◌, Option, None, Some}
use Rattle.uno_entities.specs.TypeNames.{kind_of}
use Rattle.uno_entities.specs.declared.type_name.TypeName.{TypeName}
use Rattle.uno_model.specs.Kinds.{Kind}

-- a type that is lent, where there is one
abbrev pub kind_or_none : Option (Bor TypeName) → List Kind
kind_or_none None = []
kind_or_none (Some k) = kind_of k.now ∷ []
