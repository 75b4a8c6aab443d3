-- Names in the slots 0, 1, 2 and so on: where one stands, and which one was used last the longest ago.
use Rattle.std.proofs.Common.{◌≡◌, ℕ, zero, suc, ◌<◌, nat_le, true, false, List, [], ◌∷◌, length, get_or, cond, ◌||◌, ◌&&◌, refl, sym, arith, bytes_eq}
use Rattle.std.specs.List.{list_any, list_all}
use Rattle.std.proofs.lemmas.Bool.{le-leb, lt-leb}
use Rattle.std.proofs.lemmas.Slice.Eq.{bytes_eq-Decides}
use Rattle.urp_model.specs.Slots.{age, stalest, is_among, place}

-- a name is among those in which it has a place
pub among_at_place : (name : List ℕ) (names : List (List ℕ)) (s : ℕ) → s < length names → get_or names s [] ≡ name → is_among name names ≡ true
unfolding is_among
among_at_place name [] s inside at = let bad : ⊥ = omega arith in absurd bad
among_at_place name (n ∷ names) zero inside at = rw ((bytes_eq-Decides name n).1 (sym at)) refl
among_at_place name (n ∷ names) (suc s) inside at = let rest = among_at_place name names s (omega arith) at in
    (elim (bytes_eq name n) as (λ y. (y || list_any (bytes_eq name) names) ≡ true) [ true ↦ refl | false ↦ rest ])

-- and among no others
pub not_among : (name : List ℕ) (names : List (List ℕ)) → ((s : ℕ) → s < length names → get_or names s [] ≡ name → ⊥) → is_among name names ≡ false
unfolding is_among
not_among name [] none = refl
not_among name (n ∷ names) none = let rest = not_among name names (λ s inside at. none (suc s) (omega arith) at) in
    (elim (bytes_eq name n) as (λ y. bytes_eq name n ≡ y → (y || list_any (bytes_eq name) names) ≡ false) [
      | true ↦ λ t. absurd (none 0 (omega arith) (sym ((bytes_eq-Decides name n).0 t)))
      | false ↦ λ t. rest
    ]) refl

-- the place of a name is its only one
pub only_place : (name : List ℕ) (names : List (List ℕ)) (s : ℕ) → s < length names → get_or names s [] ≡ name
    → ((t : ℕ) → t < length names → get_or names t [] ≡ name → t ≡ s) → place name names ≡ s
unfolding place
only_place name [] s inside at only = let bad : ⊥ = omega arith in absurd bad
only_place name (n ∷ names) zero inside at only = rw ((bytes_eq-Decides name n).1 (sym at)) refl
only_place name (n ∷ names) (suc s) inside at only =
    let rest = only_place name names s (omega arith) at (λ t within there. let same : suc t ≡ suc s = only (suc t) (omega arith) there in omega arith) in
    (elim (bytes_eq name n) as (λ y. bytes_eq name n ≡ y → cond y 0 (suc (place name names)) ≡ suc s) [
      | true ↦ λ t. only 0 (omega arith) (sym ((bytes_eq-Decides name n).0 t))
      | false ↦ λ t. cc
    ]) refl

-- none is older than one that is older than all others
pub none_older : (uses : List (List ℕ)) (name : List ℕ) (names : List (List ℕ))
    → ((t : ℕ) → t < length names → age uses (get_or names t []) < age uses name)
    → list_all (λ other. nat_le (age uses other) (age uses name)) names ≡ true
none_older uses name [] below = refl
none_older uses name (n ∷ names) below = let rest = none_older uses name names (λ t inside. below (suc t) (omega arith)) in
    let first = below 0 (omega arith) in rw (le-leb (age uses n) (age uses name) (omega arith)) rest

-- one is older than some of these, where it is older than the one at a place
pub some_older : (uses : List (List ℕ)) (name : List ℕ) (names : List (List ℕ)) (t : ℕ) → t < length names
    → age uses name < age uses (get_or names t []) → list_all (λ other. nat_le (age uses other) (age uses name)) names ≡ false
some_older uses name [] t inside above = let bad : ⊥ = omega arith in absurd bad
some_older uses name (n ∷ names) zero inside above = rw (lt-leb (age uses n) (age uses name) above) refl
some_older uses name (n ∷ names) (suc t) inside above = let rest = some_older uses name names t (omega arith) above in
    (elim (nat_le (age uses n) (age uses name)) as (λ y. (y && list_all (λ other. nat_le (age uses other) (age uses name)) names) ≡ false)
    [ true ↦ rest | false ↦ refl ])

-- the place of the one that is older than all others
pub stalest_place : (uses : List (List ℕ)) (names : List (List ℕ)) (s : ℕ) → s < length names
    → ((t : ℕ) → t < length names → (t ≡ s → ⊥) → age uses (get_or names t []) < age uses (get_or names s [])) → stalest uses names ≡ s
unfolding stalest
stalest_place uses [] s inside below = let bad : ⊥ = omega arith in absurd bad
stalest_place uses (n ∷ names) zero inside below = let all = none_older uses n names (λ t within. below (suc t) (omega arith) (λ is. cc)) in rw all refl
stalest_place uses (n ∷ names) (suc s) inside below =
    let rest = stalest_place uses names s (omega arith) (λ t within other. below (suc t) (omega arith) (λ is. other (omega arith))) in
    let some = some_older uses n names s (omega arith) (below 0 (omega arith) (λ is. cc)) in
    rw (some, rest) refl
