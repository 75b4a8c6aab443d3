-- Nothing fails exactly where all pass.
use Rattle.std.proofs.Common.{◌≡◌, Bool, true, false, not, ◌&&◌, List, [], ◌∷◌, ◌++◌, map, refl, sym, ap₂, ◌∙◌, if◌then◌else◌}
use Rattle.std.proofs.lemmas.Bool.{and_parts, and_from}
use Rattle.std.proofs.lemmas.List.Folds.{list_all-append}
use Rattle.std.specs.List.{filter, list_all}
use Rattle.idl_model.specs.Places.{Place}
use Rattle.idl_rules_model.specs.WherePaths.{failing}

module _ {X : Type 0} (test : X → Bool) (place : X → Place) where
  one_passes : (x : X) (xs : List X) (b : Bool) → map place (if not b then x ∷ filter (λ y. not (test y)) xs else filter (λ y. not (test y)) xs) ≡ []
      → (failing test place xs ≡ [] → list_all test xs ≡ true) → (b && list_all test xs) ≡ true
  one_passes x xs true none rest = rest none
  one_passes x xs false none rest = let bad : ⊥ = cc in absurd bad

  pub all_pass : (xs : List X) → failing test place xs ≡ [] → list_all test xs ≡ true
  all_pass [] none = refl
  all_pass (x ∷ xs) none = one_passes x xs (test x) none (all_pass xs)

  one_fails : (x : X) (xs : List X) (b : Bool) → (b && list_all test xs) ≡ true → (list_all test xs ≡ true → failing test place xs ≡ [])
      → map place (if not b then x ∷ filter (λ y. not (test y)) xs else filter (λ y. not (test y)) xs) ≡ []
  one_fails x xs true all rest = rest all
  one_fails x xs false all rest = let bad : ⊥ = cc in absurd bad

  pub none_fail : (xs : List X) → list_all test xs ≡ true → failing test place xs ≡ []
  none_fail [] all = refl
  none_fail (x ∷ xs) all = one_fails x xs (test x) all (none_fail xs)

-- two rows that pass alike, joined
pub joined : {X Y : Type 0} (p : X → Bool) (q : Y → Bool) (xs us : List X) (ys vs : List Y) → list_all p xs ≡ list_all q ys → list_all p us ≡ list_all q vs
    → list_all p (xs ++ us) ≡ list_all q (ys ++ vs)
joined p q xs us ys vs first second = list_all-append p xs us ∙ ap₂ (λ a b. a && b) first second ∙ sym (list_all-append q ys vs)

-- what passes a weaker test
pub all_weaker : {X : Type 0} (p q : X → Bool) (xs : List X) → ((x : X) → p x ≡ true → q x ≡ true) → list_all p xs ≡ true → list_all q xs ≡ true
all_weaker p q [] weaker all = refl
all_weaker p q (x ∷ xs) weaker all =
    let parts = and_parts (p x) (list_all p xs) all in
    and_from (q x) (list_all q xs) (weaker x parts.0) (all_weaker p q xs weaker parts.1)
