-- Of several places one comes first.
use Rattle.std.proofs.Common.{◌≡◌, zero, suc, Bool, true, false, List, [], ◌∷◌, refl, subst, arith}
use Rattle.std.proofs.lemmas.Bool.{both_ways, false_from_ne_true}
use Rattle.std.proofs.lemmas.Bool.Decides.{nat_tests}
use Rattle.std.specs.List.{Contains}
use Rattle.idl_model.specs.Places.{Place, is_before}

not_before_itself : (p : Place) → is_before p p ≡ false
not_before_itself p = grind (arith, nat_tests)

before_later : (p q r : Place) → is_before p q ≡ true → is_before q r ≡ true → is_before p r ≡ true
before_later p q r first second = grind (arith, nat_tests)

module _ {X : Type 0} (place : X → Place) where
  -- one of them is such that no other comes before it
  abbrev pub HasFirst : List X → Type 0
  HasFirst xs = (y : X) × Contains xs y × ((z : X) → Contains xs z → is_before (place z) (place y) ≡ false)

  first_of_both : (x : X) (xs : List X) → HasFirst xs → HasFirst (x ∷ xs)
  first_of_both x xs rest = by_test (is_before (place x) (place rest.0)) refl
    where
      by_test : (b : Bool) → is_before (place x) (place rest.0) ≡ b → HasFirst (x ∷ xs)
      by_test true is = (x, (0, omega arith, refl), first)
        where
          first : (z : X) → Contains (x ∷ xs) z → is_before (place z) (place x) ≡ false
          first z (zero, low, here) = subst (λ w. is_before (place w) (place x) ≡ false) here (not_before_itself (place x))
          first z (suc k, low, here) =
              false_from_ne_true (is_before (place z) (place x)) (λ before.
              both_ways (is_before (place z) (place rest.0)) (rest.2 z (k, omega arith, here)) (before_later (place z) (place x) (place rest.0) before is))
      by_test false is = (rest.0, (suc rest.1.0, omega (arith, rest.1.1), rest.1.2), first)
        where
          first : (z : X) → Contains (x ∷ xs) z → is_before (place z) (place rest.0) ≡ false
          first z (zero, low, here) = subst (λ w. is_before (place w) (place rest.0) ≡ false) here is
          first z (suc k, low, here) = rest.2 z (k, omega arith, here)

  pub has_first : (x : X) (xs : List X) → HasFirst (x ∷ xs)
  has_first x [] = (x, (0, omega arith, refl), first)
    where
      first : (z : X) → Contains (x ∷ []) z → is_before (place z) (place x) ≡ false
      first z (zero, low, here) = subst (λ w. is_before (place w) (place x) ≡ false) here (not_before_itself (place x))
      first z (suc k, low, here) = let bad : ⊥ = omega arith in absurd bad
  has_first x (y ∷ ys) = first_of_both x (y ∷ ys) (has_first y ys)
