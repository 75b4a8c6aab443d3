-- Keys of places, and numbers beside them.
use Rattle.std.specs.List.{list_all}
use Rattle.std.specs.Option.{option_and_then}
use Rattle.std.specs.Prelude.{◌≡◌, ◌+◌, ◌*◌, ◌==◌, ◌&&◌, nat_lt, ℕ, Bool, true, List, [], ◌∷◌, slice_get, Option}
use Rattle.idl_model.specs.Places.{Place, is_at}
use Rattle.idl_trees.specs.Names.{place_of}
use Rattle.idl_trees.specs.declared.place.Place as code
use Rattle.idl_values.specs.Places.{first_place}

-- the key of a place is a number in whose last 32 bits its byte stands, and before them its file
unfoldable pub has_key : Place → ℕ → Bool
has_key p k = nat_lt p.byte 4294967296 && (k == p.file * 4294967296 + p.byte)

-- the keys of the places of these
unfoldable pub AreKeys : List (code.Place × ℕ) → List ℕ → Type 0
AreKeys [] [] = Unit
AreKeys [] (k ∷ ks) = ⊥
AreKeys (x ∷ xs) [] = ⊥
AreKeys (x ∷ xs) (k ∷ ks) = ((p : Place) → has_key p k ≡ is_at (place_of x.0) p) × AreKeys xs ks

-- each is below those behind it
unfoldable pub do_rise : List ℕ → Bool
do_rise [] = true
do_rise (k ∷ ks) = list_all (nat_lt k) ks && do_rise ks

-- the number at the key of a place
unfoldable pub number_beside : List ℕ → List ℕ → Place → Option ℕ
number_beside keys numbers p = option_and_then (slice_get numbers) (first_place (has_key p) keys)
