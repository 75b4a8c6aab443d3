-- Constants and items by their place among all of them.
use Rattle.std.specs.Option.{option_and_then}
use Rattle.std.specs.Prelude.{ℕ, suc, Bool, true, false, List, [], ◌∷◌, get_or, Option, None, Some, option_map, if◌then◌else◌}
use Rattle.idl_model.specs.Places.{Place}
use Rattle.idl_model.specs.Trees.{Path}

-- the place of the first that passes
unfoldable pub first_place : {X : Type 0} → (X → Bool) → List X → Option ℕ
first_place test [] = None
first_place test (x ∷ xs) = if test x then Some 0 else option_map suc (first_place test xs)

-- a place is noted, where none is
abbrev pub noted_with : Bool → ℕ → Option ℕ → Option ℕ
noted_with same place (Some other) = Some other
noted_with true place None = Some place
noted_with false place None = None

-- what a table has for a number
abbrev pub noted_at : List (Option ℕ) → ℕ → Option ℕ
noted_at table n = get_or table n None

-- what a table has for the number that is told of a path
abbrev pub known_by : (Place → Option ℕ) → List (Option ℕ) → Path → Option ℕ
known_by told table path = option_and_then (noted_at table) (told path.place)
