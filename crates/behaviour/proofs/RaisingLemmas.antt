-- Whether one exception derives from another, as a test and as a fact.
use Rattle.std.proofs.Common.{◌≡◌, ℕ, ◌+◌, ◌<◌, ◌≤◌, Bool, true, false, List, IsTrue, length, drop, get_or, ◌↔◌, refl, sym}
use Rattle.std.specs.List.{list_any}
use Rattle.std.proofs.lemmas.List.{drop_all}
use Rattle.uno_model.specs.Reaches.{is_base_of}
use Rattle.uno_model.specs.Entities.{Entity}
use Rattle.uno_model.specs.Registry.{IsBaseOf}
use Rattle.uno_model.specs.Sound.{IsSound}
use Rattle.uno_model.proofs.ReachesLaws.{reaches_bases}
use Rattle.uno_values.proofs.Parts.{part_at}

-- two tests of one fact answer the same
same_truth : {B : Type 0} (a b : Bool) → (IsTrue a ↔ B) → ((b ≡ true) ↔ B) → a ≡ b
same_truth true true x y = refl
same_truth false false x y = refl
same_truth true false x y = let bad : false ≡ true = y.1 (x.0 refl) in sym bad
same_truth false true x y = x.1 (y.0 refl)

pub base_told : (reg : List Entity) (base name : List ℕ) (answer : Bool) → IsSound reg → (IsTrue answer ↔ IsBaseOf reg base name) → answer ≡ is_base_of reg base name
unfolding is_base_of
base_told reg base name answer sound told = same_truth answer (is_base_of reg base name) told (reaches_bases (length reg) reg base name sound.no_circle refl)

-- ---- whether it derives from one of several

module _ (p : List ℕ → Bool) (xs : List (List ℕ)) (i : ℕ) (x : List ℕ) (whole : Bool) (within : i < length xs) (is : x ≡ get_or xs i x) where
  pub base_behind : p x ≡ false → list_any p (drop i xs) ≡ whole → list_any p (drop (i + 1) xs) ≡ whole
  base_behind other all = rw other at (rw (part_at xs i x within is) at all)

  pub base_here : p x ≡ true → list_any p (drop i xs) ≡ whole → true ≡ whole
  base_here same all = rw same at (rw (part_at xs i x within is) at all)

pub base_nowhere : (p : List ℕ → Bool) (xs : List (List ℕ)) (i : ℕ) (whole : Bool) → length xs ≤ i → list_any p (drop i xs) ≡ whole → false ≡ whole
base_nowhere p xs i whole past all = rw (drop_all i xs past) at all
