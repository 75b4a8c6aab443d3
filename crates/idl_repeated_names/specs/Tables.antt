-- The places of second names, as far as they do not depend on that of the declaration.
use Rattle.std.specs.Prelude.{List, [], ◌∷◌, ◌++◌, Option, Contains, if◌then◌else◌}
use Rattle.std.specs.List.{flat_map}
use Rattle.std.specs.Option.{option_or}
use Rattle.std.specs.Str.{bytes_eq}
use Rattle.idl_model.specs.Places.{Place}
use Rattle.idl_rules_model.specs.NamesDiffer.{NameAt}

-- the place of the second of two equal names, else of the first; where neither has one, it is missing
abbrev pub place_if_second : NameAt → NameAt → List (Option Place)
place_if_second first second = if bytes_eq first.name second.name then option_or second.place first.place ∷ [] else []

unfoldable pub second_places : List NameAt → List (Option Place)
second_places [] = []
second_places (name ∷ names) = flat_map (place_if_second name) names ++ second_places names

-- where one name comes behind others
unfoldable pub seconds : List NameAt → NameAt → List (Option Place)
seconds names n = flat_map (λ first. place_if_second first n) names

-- what is in one list is in another
abbrev pub IsWithin : {X : Type 0} → List X → List X → Type 0
IsWithin {X = X} ps qs = (p : X) → Contains ps p → Contains qs p
