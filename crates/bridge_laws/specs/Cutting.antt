-- Journals that differ in how their bytes are cut into pieces.
use Rattle.std.specs.Prelude.{◌≡◌, ℕ, true, List, [], ◌∷◌, ◌++◌}
use Rattle.bridge_model.specs.Entries.{Entry, fed}
use Rattle.bridge_model.specs.Steps.{is_some_bytes}

-- the second journal has the entries of the first, and each piece of bytes whole or cut into several, of which none is empty
pub data IsCut : List Entry → List Entry → Type 0 where
  ends : IsCut [] []
  same : (e : Entry) → (es fs : List Entry) → IsCut es fs → IsCut (e ∷ es) (e ∷ fs)
  cut : (a b : List ℕ) → (es fs : List Entry) → is_some_bytes a ≡ true → is_some_bytes b ≡ true → IsCut (fed b ∷ es) fs → IsCut (fed (a ++ b) ∷ es) (fed a ∷ fs)

-- two journals have the same entries and the same bytes, and may differ in how these are cut
pub data HaveSameBytes : List Entry → List Entry → Type 0 where
  both_end : HaveSameBytes [] []
  same_entry : (e : Entry) → (es fs : List Entry) → HaveSameBytes es fs → HaveSameBytes (e ∷ es) (e ∷ fs)
  first_shorter : (a b : List ℕ) → (es fs : List Entry) → is_some_bytes a ≡ true → is_some_bytes b ≡ true → HaveSameBytes es (fed b ∷ fs) → HaveSameBytes (fed a ∷ es) (fed (a ++ b) ∷ fs)
  second_shorter : (a b : List ℕ) → (es fs : List Entry) → is_some_bytes a ≡ true → is_some_bytes b ≡ true → HaveSameBytes (fed b ∷ es) fs → HaveSameBytes (fed (a ++ b) ∷ es) (fed a ∷ fs)
