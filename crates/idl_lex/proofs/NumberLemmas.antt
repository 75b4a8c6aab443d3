-- What is parsed of digits in a base is their number.
use Rattle.std.proofs.Common.{◌≡◌, ℕ, ◌<◌, ◌^◌, Bool, true, false, ◌&&◌, nat_lt, List, [], ◌∷◌, None, Some}
use Rattle.std.proofs.Common.{Result, Ok, Err, IsTrue, refl, sym, ap, subst, ◌∙◌, arith, if◌then◌else◌}
use Rattle.std.proofs.lemmas.Bool.{and_parts, and_from, ltb-true, lt-ltb}
use Rattle.std.proofs.lemmas.Str.Parse.{without_leading_plus_none}
use Rattle.std.specs.Char.{digit_value}
use Rattle.std.specs.List.{list_all}
use Rattle.std.specs.Result.{OkIff, result_ok}
use Rattle.std.specs.Str.Parse.{AllDigits, IsNumeral, ParsesUnsigned, digits_value, without_leading_plus}
use Rattle.idl_text_model.specs.Numbers.{are_digits, number_in}
use Rattle.uno_model.specs.Names.{goes_on_identifier}

no_plus : (ds : List ℕ) → IsTrue (list_all goes_on_identifier ds) → without_leading_plus ds ≡ ds
no_plus [] word = refl
no_plus (c ∷ cs) word = without_leading_plus_none (c ∷ cs) (other c (and_parts (goes_on_identifier c) _ word).0)
  where
    other : (c : ℕ) → goes_on_identifier c ≡ true → ¬ (c ≡ 43)
    other c goes_on same = let bad : goes_on_identifier 43 ≡ true = subst (λ x. goes_on_identifier x ≡ true) same goes_on in absurd cc

-- each is a digit
digits_said : (base : ℕ) (ds : List ℕ) → list_all (λ c. nat_lt (digit_value c) base) ds ≡ true → AllDigits base ds
digits_said base [] all = tt
digits_said base (c ∷ cs) all =
    let parts = and_parts (nat_lt (digit_value c) base) _ all in
    (ltb-true (digit_value c) base parts.0, digits_said base cs parts.1)

digits_back : (base : ℕ) (ds : List ℕ) → AllDigits base ds → list_all (λ c. nat_lt (digit_value c) base) ds ≡ true
digits_back base [] all = refl
digits_back base (c ∷ cs) all = and_from (nat_lt (digit_value c) base) _ (lt-ltb (digit_value c) base all.0) (digits_back base cs all.1)

numeral_said : (base : ℕ) (ds : List ℕ) → are_digits base ds ≡ true → IsNumeral base ds
numeral_said base [] are = absurd cc
numeral_said base (c ∷ cs) are = (omega arith, digits_said base (c ∷ cs) are)

numeral_back : (base : ℕ) (ds : List ℕ) → IsNumeral base ds → are_digits base ds ≡ true
numeral_back base [] is = let bad : ⊥ = omega (arith, is.0) in absurd bad
numeral_back base (c ∷ cs) is = digits_back base (c ∷ cs) is.1

number_said : {E : Type 0} (base : ℕ) (ds : List ℕ) (r : Result ℕ E) → OkIff r (IsNumeral base ds × (digits_value base ds < 2 ^ 64)) (digits_value base ds)
    → result_ok r ≡ number_in base ds
unfolding number_in
number_said base ds (Ok n) is =
    let digits = numeral_back base ds (is.0).0 in
    let small = lt-ltb (digits_value base ds) (2 ^ 64) (is.0).1 in
    ap Some is.1 ∙ sym (rw (digits, small) refl)
number_said base ds (Err e) isnt = by_digits (are_digits base ds) refl (nat_lt (digits_value base ds) (2 ^ 64)) refl
  where
    by_digits : (b : Bool) → are_digits base ds ≡ b → (l : Bool) → nat_lt (digits_value base ds) (2 ^ 64) ≡ l
        → None ≡ (if are_digits base ds && nat_lt (digits_value base ds) (2 ^ 64) then Some (digits_value base ds) else None)
    by_digits true are true small = absurd (isnt (numeral_said base ds are, ltb-true (digits_value base ds) (2 ^ 64) small))
    by_digits true are false large = rw (are, large) refl
    by_digits false none l small = rw none refl

pub parsed : {E : Type 0} (base : ℕ) (ds s : List ℕ) (r : Result ℕ E) → IsTrue (list_all goes_on_identifier ds) → s ≡ ds → ParsesUnsigned 64 base s r
    → result_ok r ≡ number_in base ds
parsed base ds s r word same parses =
    number_said base ds r (subst (λ x. OkIff r (IsNumeral base x × (digits_value base x < 2 ^ 64)) (digits_value base x)) (ap without_leading_plus same ∙ no_plus ds word) parses)
