-- To which constants and items one leads, by place.
use Rattle.std.specs.List.{filter_map}
use Rattle.std.specs.Option.{option_and_then, option_to_list}
use Rattle.std.specs.Prelude.{◌≡◌, ℕ, ◌<◌, zero, suc, List, [], ◌∷◌, length, slice_get, Option, None, Some, Contains}
use Rattle.idl_meaning_model.specs.Declarations.{Origin, expression, first_item, item_before, Valued}
use Rattle.idl_meaning_model.specs.Scopes.{constant_named}
use Rattle.idl_meaning_model.specs.Uses.{expr_paths, Used, an_entity, a_value}
use Rattle.idl_model.specs.Places.{is_at}
use Rattle.idl_model.specs.Trees.{Path, Expr}
use Rattle.idl_values.specs.Places.{first_place}

-- what is used as a value
abbrev pub used_place : (Path → Option ℕ) → Used → Option ℕ
used_place known (an_entity path) = None
used_place known (a_value path) = known path

-- the place before
abbrev pub place_before : ℕ → Option ℕ
place_before zero = None
place_before (suc k) = Some k

-- those that the expression of one names; an item without a value leads to the one before it
abbrev pub origin_places : (Path → Option ℕ) → Origin → ℕ → List ℕ
origin_places known (expression e) place = filter_map known (expr_paths e)
origin_places known first_item place = []
origin_places known (item_before p) place = option_to_list (place_before place)

-- from a place on
unfoldable pub places_from : (Path → Option ℕ) → ℕ → List Origin → List (List ℕ)
places_from known place [] = []
places_from known place (o ∷ os) = origin_places known o place ∷ places_from known (suc place) os

-- ---- where places are those of all constants and items

-- each path in an expression is known by the place of the one that it names
abbrev pub AreKnown : List Valued → (Path → Option ℕ) → Type 0
AreKnown vs known = (v : Valued) → Contains vs v → (e : Expr) → v.origin ≡ expression e → (p : Path) → Contains (expr_paths e) p
    → option_and_then (slice_get vs) (known p) ≡ constant_named vs v.scope p

abbrev pub AreLow : List Valued → (Path → Option ℕ) → Type 0
AreLow vs known = (p : Path) (t : ℕ) → known p ≡ Some t → t < length vs

-- an item without a value stands behind the one that gives it
abbrev pub IsBehind : List Valued → Origin → ℕ → Type 0
IsBehind vs (expression e) place = Unit
IsBehind vs first_item place = Unit
IsBehind vs (item_before p) place = first_place (λ v. is_at p v.name.place) vs ≡ place_before place

abbrev pub StandInOrder : List Valued → Type 0
StandInOrder vs = (n : ℕ) (v : Valued) → slice_get vs n ≡ Some v → IsBehind vs v.origin n
