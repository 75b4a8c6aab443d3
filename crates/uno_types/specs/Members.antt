-- The levels of bases that members come from.
use Rattle.std.specs.Prelude.{◌≡◌, ℕ, List, [], ◌∷◌, ◌++◌, map, Option, None, Some}
use Rattle.std.specs.Borrow.{Bor}
use Rattle.uno_model.specs.Entities as plain
use Rattle.uno_model.specs.Registry.{own_members, member_bases}
use Rattle.uno_types.specs.declared.members.Level.{Level}
use Rattle.uno_entities.specs.declared.entity.Field.{Field}
use Rattle.uno_entities.specs.Entities.{field_of}

-- the base's name, as a list of at most one
abbrev pub base_named : Option (Bor (List ℕ)) → List (List ℕ)
base_named None = []
base_named (Some name) = name.now ∷ []

-- a level holds the members that the entity declares, and the base that it has more from
pub record IsLevel (level : Level) (entity : Option plain.Entity) : Type 0 where
  pub own : map field_of level.own.now ≡ own_members entity
  pub base : base_named level.base ≡ member_bases entity

-- members that are borrowed, and those of levels of which the last is the base of all others
abbrev pub fields_at : List (Bor Field) → List plain.Field
fields_at = map (λ f. field_of f.now)

unfoldable pub stacked : List (Bor (List Field)) → List plain.Field
stacked [] = []
stacked (own ∷ levels) = stacked levels ++ map field_of own.now
