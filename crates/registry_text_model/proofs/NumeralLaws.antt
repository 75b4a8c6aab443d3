-- A numeral of at most 64 digits is what std writes of the number.
use Rattle.std.proofs.Common.{◌≡◌, ℕ, zero, suc, ◌+◌, ◌^◌, ◌<◌, ◌≤◌, ◌/◌, ◌%◌, ℤ, pos, negsuc, [], ◌∷◌, ◌++◌, map, refl, ap, ◌∙◌, arith}
use Rattle.std.proofs.lemmas.Fmt.{decimal_by_steps_wide}
use Rattle.std.proofs.lemmas.Int.Digits.{digits_of_step}
use Rattle.std.proofs.lemmas.List.{map-append}
use Rattle.std.specs.Fmt.{decimal, signed_decimal}
use Rattle.std.specs.Int.Digits.{digits_of}
use Rattle.registry_text_model.specs.Lines.{digits_text, numeral}
use lib.Signed.{mag}

-- the digits of a number that is not 0
pub digits_are : (n : ℕ) → 0 < n → digits_text n ≡ map (λ d. 48 + d) (digits_of 10 n)
unfolding digits_text
digits_are zero some = let bad : ⊥ = omega arith in absurd bad
digits_are (suc n) some = refl

pub one_digit : (n : ℕ) → n < 10 → digits_text n ≡ (48 + n) ∷ []
unfolding digits_text
one_digit zero few = refl
one_digit (suc n) few =
    let none : suc n / 10 ≡ 0 = omega arith in
    let all : suc n % 10 ≡ suc n = omega arith in
    rw (digits_of_step 10 (suc n) (omega arith) (omega arith), none, all) refl

-- the last digit behind those of the tenth
pub more_digits : (n : ℕ) → 10 ≤ n → digits_text n ≡ digits_text (n / 10) ++ (48 + n % 10) ∷ []
more_digits n many =
    let some : 0 < n / 10 = omega arith in
    rw (digits_are n (omega arith), digits_are (n / 10) some, digits_of_step 10 n (omega arith) (omega arith))
    (map-append (λ d. 48 + d) (digits_of 10 (n / 10)) (n % 10 ∷ []))

digits_is : (n : ℕ) → n < 10 ^ 64 → digits_text n ≡ decimal n
digits_is n few = decimal_by_steps_wide (λ m ds. digits_text m ≡ ds) one_digit
    (λ m ds many inner. more_digits m many ∙ ap (λ xs. xs ++ (48 + m % 10) ∷ []) inner) n few

-- `mag` of a negative number is one less than its amount
pub numeral_is : (z : ℤ) → mag z + 1 < 10 ^ 64 → numeral z ≡ signed_decimal z
unfolding numeral
numeral_is (pos n) few = digits_is n (omega (arith, few))
numeral_is (negsuc n) few = ap (λ ds. 45 ∷ ds) (digits_is (suc n) (omega (arith, few)))
