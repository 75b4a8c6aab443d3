-- The decimal digits of a number below 2^64 are a chunk, and that number.
use Rattle.std.proofs.Common.{◌≡◌, ℕ, zero, suc, ◌+◌, ◌/◌, ◌%◌, ◌<◌, ◌≤◌, ◌^◌, true, false, ◌==◌, nat_lt, List, [], ◌∷◌, ◌++◌, take, Some}
use Rattle.std.proofs.Common.{refl, sym, ap, subst, ◌∙◌, codes, arith, is_some}
use Rattle.std.proofs.lemmas.Bool.{and_parts, and_from, lt-ltb, eqb-true, cond-true, cond-false, false_from_ne_true}
use Rattle.std.proofs.lemmas.Fmt.{decimal_is_IsNumeral, decimal_by_steps}
use Rattle.std.specs.Char.{digit_value, is_ascii_digit}
use Rattle.std.specs.Fmt.{decimal}
use Rattle.std.specs.List.{list_all}
use Rattle.std.specs.Option.{option_map}
use Rattle.std.specs.Str.{bytes_eq}
use Rattle.std.specs.Str.Parse.{digits_value, AllDigits, IsNumeral}
use Rattle.idl_text_model.proofs.NumberLaws.{is_numeral}
use Rattle.idl_text_model.specs.Numbers.{are_digits, number_in, number_of_word}
use Rattle.idl_text_model.specs.Pieces.{numeral, is_none_of}
use Rattle.idl_text_model.specs.Tokens.{number, word_of}
use Rattle.uno_model.specs.Names.{goes_on_identifier}
use Rattle.uno_model.specs.Sound.{is_some_list}
use Rattle.canonical_laws.proofs.Chunks.{is_solid, begins_solid, at_parting, IsChunk, one_piece}
use Rattle.canonical_laws.proofs.ChunkWords.{letters_of_seven_bits}

all_are_digits : (ds : List ℕ) → AllDigits 10 ds → list_all (λ c. nat_lt (digit_value c) 10) ds ≡ true
all_are_digits [] all = refl
all_are_digits (c ∷ cs) (here, others) = and_from (nat_lt (digit_value c) 10) _ (lt-ltb (digit_value c) 10 here) (all_are_digits cs others)

-- digits that begin with no 0, or 0 alone
data Digits : ℕ → List ℕ → Type 0 where
  nothing : Digits 0 (48 ∷ [])
  something : (n c : ℕ) (cs : List ℕ) → 48 < c → c < 58 → Digits n (c ∷ cs)

one_digit : (n : ℕ) → n < 10 → Digits n ((48 + n) ∷ [])
one_digit zero few = nothing
one_digit (suc n) few = something (suc n) (48 + suc n) [] (omega arith) (omega (arith, few))

more_digits : (n : ℕ) (ds : List ℕ) → 10 ≤ n → Digits (n / 10) ds → Digits n (ds ++ (48 + n % 10) ∷ [])
more_digits n ds many inner = by_inner (n / 10) ds refl inner
  where
    by_inner : (m : ℕ) (es : List ℕ) → m ≡ n / 10 → Digits m es → Digits n (es ++ (48 + n % 10) ∷ [])
    by_inner m es same (nothing) = let bad : ⊥ = omega (arith, many, same) in absurd bad
    by_inner m es same (something m' c cs low high) = something n c (cs ++ (48 + n % 10) ∷ []) low high

digits_of_number : (n : ℕ) → n < 2 ^ 64 → Digits n (decimal n)
digits_of_number n few = decimal_by_steps Digits one_digit more_digits n few

-- ---- the number that they are

first_not_zero : (c : ℕ) (cs : List ℕ) → 48 < c → bytes_eq (take 1 (c ∷ cs)) (codes "0") ≡ false
first_not_zero c cs low = false_from_ne_true _ (λ same. let e = eqb-true c 48 (and_parts (c == 48) true same).0 in let bad : ⊥ = omega (arith, low, e) in bad)

hex_not_zero : (c : ℕ) (cs : List ℕ) → 48 < c → bytes_eq (take 2 (c ∷ cs)) (codes "0x") ≡ false
hex_not_zero c [] low = false_from_ne_true _ (λ same. let e = eqb-true c 48 (and_parts (c == 48) _ same).0 in let bad : ⊥ = omega (arith, low, e) in bad)
hex_not_zero c (d ∷ ds) low = false_from_ne_true _ (λ same. let e = eqb-true c 48 (and_parts (c == 48) _ same).0 in let bad : ⊥ = omega (arith, low, e) in bad)

read_in_ten : (w : List ℕ) → is_some_list w ≡ true → AllDigits 10 w → digits_value 10 w < 2 ^ 64 → number_in 10 w ≡ Some (digits_value 10 w)
unfolding number_in
read_in_ten w some digits few =
    cond-true _ _ _ (and_from (are_digits 10 w) _ (and_from (is_some_list w) _ some (all_are_digits w digits)) (lt-ltb (digits_value 10 w) (2 ^ 64) few))

read_of : (n : ℕ) (ds : List ℕ) → Digits n ds → IsNumeral 10 ds → digits_value 10 ds ≡ n → n < 2 ^ 64 → number_of_word ds ≡ Some n
unfolding number_of_word number_in
read_of n ds (nothing) is value few = ap Some value
read_of n ds (something n' c cs low high) is value few =
    cond-false _ _ _ (hex_not_zero c cs low) ∙ cond-false _ _ _ (first_not_zero c cs low)
    ∙ read_in_ten (c ∷ cs) refl is.1 (omega (arith, value, few)) ∙ ap Some value

pub number_read : (n : ℕ) → n < 2 ^ 64 → number_of_word (decimal n) ≡ Some n
number_read n few =
    let is = decimal_is_IsNumeral n few in
    read_of n (decimal n) (digits_of_number n few) is.0 is.1 few

-- ---- the chunk

digit_solid : (c : ℕ) → is_ascii_digit c ≡ true → is_solid c ≡ true
digit_solid c digit = grind (arith, digit)

pub number_chunk : (n : ℕ) → n < 2 ^ 64 → IsChunk (decimal n) (number n ∷ [])
unfolding word_of
number_chunk n few =
    let read = number_read n few in
    let formed : is_some (number_of_word (decimal n)) ≡ true = rw read refl in
    let is = is_numeral (decimal n) formed in
    let solid : begins_solid (decimal n) ≡ true = subst (λ w. begins_solid w ≡ true) (sym is.word) (digit_solid is.first is.digit) in
    one_piece (numeral (decimal n)) (number n) solid (letters_of_seven_bits (decimal n) is.letters) formed
    (at_parting (λ c. is_none_of goes_on_identifier (Some c) ≡ true) refl refl) (ap (option_map number) read)
