-- Whether one of several items passes a test, as they are tried one after the other.
use Rattle.std.proofs.Common.{◌≡◌, ℕ, zero, suc, ◌+◌, Bool, true, false, ◌||◌, List, [], ◌∷◌, drop, slice_get, None, Some, option_map, sym, ap, ◌∙◌, arith}
use Rattle.std.specs.List.{list_any}

module _ {A B : Type 0} (view : A → B) (test : B → Bool) where
  -- one of those that are left passes where the next does, or one behind it
  any_next : (xs : List A) (n : ℕ) (y : B) → Some y ≡ option_map view (slice_get xs n)
      → list_any (λ x. test (view x)) (drop n xs) ≡ (test y || list_any (λ x. test (view x)) (drop (suc n) xs))
  any_next [] n y is = absurd (clash is)
    where
      clash : Some y ≡ None → ⊥
      clash e = cc
  any_next (x ∷ xs) zero y is = ap (λ z. test z || list_any (λ x. test (view x)) xs) (same is)
    where
      same : Some y ≡ Some (view x) → view x ≡ y
      same e = cc
  any_next (x ∷ xs) (suc n) y is = any_next xs n y is

  module _ (xs : List A) (n : ℕ) (y : B) (is : Some y ≡ option_map view (slice_get xs n)) where
    -- the next passes
    pub next_passes : test y ≡ true → true ≡ list_any (λ x. test (view x)) (drop n xs)
    next_passes told = sym (any_next xs n y is ∙ ap (λ b. b || list_any (λ x. test (view x)) (drop (suc n) xs)) told)

    -- the next does not, so one behind it does where one that is left does
    pub next_fails : test y ≡ false → list_any (λ x. test (view x)) (drop (n + 1) xs) ≡ list_any (λ x. test (view x)) (drop n xs)
    next_fails told =
        let one_on : n + 1 ≡ suc n = omega arith in
        ap (λ k. list_any (λ x. test (view x)) (drop k xs)) one_on
        ∙ sym (any_next xs n y is ∙ ap (λ b. b || list_any (λ x. test (view x)) (drop (suc n) xs)) told)
