-- Whole numbers in decimal digits, both ways.
use Rattle.std.proofs.Common.{◌≡◌, ℕ, zero, suc, ◌+◌, ◌-◌, ◌*◌, ◌<◌, ◌≤◌, ◌/◌, ◌%◌, ℤ, pos, negsuc, Bool, true, false, not, ◌&&◌, ◌==◌, nat_le, List}
use Rattle.std.proofs.Common.{[], ◌∷◌, ◌++◌, map, get_or, Some, refl, sym, ap, ◌∙◌, append_assoc, append-nil, codes, arith}
use Rattle.std.specs.Int.Digits.{digits_of, number_from_digits_after, AllBelowBase}
use Rattle.std.specs.List.{list_all}
use Rattle.std.specs.Str.{bytes_eq}
use Rattle.std.proofs.lemmas.Bool.{and_parts, and_from, and_left, leb-true, le-leb, eqb-true, ne_eqb}
use Rattle.std.proofs.lemmas.Int.Digits.{all_below_base_digits_of, first_digits_of, number_digits_of}
use Rattle.uno_model.proofs.Options.{same_some, none_some}
use Rattle.registry_text_model.proofs.NumeralLaws.{digits_are, one_digit, more_digits}
use Rattle.registry_text_model.specs.Lines.{digits_text, numeral}
use Rattle.registry_reading_model.specs.Numbers.{is_digit, read_on, magnitude_of, negated, number_of}
use Rattle.registry_reading_model.specs.Words.{on_some}
use Rattle.registry_reading_model.proofs.WordLaws.{lacks, same_word, given, allowed}

-- ---- what is written is read

read_glyphs : (n : ℕ) (ds : List ℕ) → read_on n (map (λ d. 48 + d) ds) ≡ number_from_digits_after 10 n ds
unfolding read_on
read_glyphs n [] = refl
read_glyphs n (d ∷ ds) =
    let e : n * 10 + (48 + d - 48) ≡ n * 10 + d = omega arith in
    ap (λ k. read_on k (map (λ c. 48 + c) ds)) e ∙ read_glyphs (n * 10 + d) ds

are_digits : (ds : List ℕ) → AllBelowBase 10 ds → list_all is_digit (map (λ d. 48 + d) ds) ≡ true
are_digits [] below = refl
are_digits (d ∷ ds) below =
    let low = le-leb 48 (48 + d) (omega arith) in
    let high = le-leb (48 + d) 57 (omega (arith, below.0)) in
    and_from (is_digit (48 + d)) (list_all is_digit (map (λ d. 48 + d) ds)) (and_from (nat_le 48 (48 + d)) (nat_le (48 + d) 57) low high)
    (are_digits ds below.1)

magnitude_forth : (n : ℕ) → 0 < n → magnitude_of (digits_text n) ≡ Some n
unfolding magnitude_of
magnitude_forth n some = rw (digits_are n some) (by_digits (digits_of 10 n) (all_below_base_digits_of 10 n (omega arith))
    (first_digits_of 10 n (omega arith) some) (number_digits_of 10 n (omega arith)))
  where
    by_digits : (ds : List ℕ) → AllBelowBase 10 ds → 0 < get_or ds 0 0 → number_from_digits_after 10 0 ds ≡ n
        → magnitude_of (map (λ d. 48 + d) ds) ≡ Some n
    by_digits [] below first is = let bad : ⊥ = omega (arith, first) in absurd bad
    by_digits (d ∷ ds) below first is =
        let digits = are_digits (d ∷ ds) below in
        let begins = le-leb 49 (48 + d) (omega (arith, first)) in
        let value : read_on 0 (map (λ c. 48 + c) (d ∷ ds)) ≡ n = read_glyphs 0 (d ∷ ds) ∙ is in
        rw (digits, begins) (ap Some value)

-- ---- what is read is written

read_back : (m : ℕ) (cs : List ℕ) → 0 < m → list_all is_digit cs ≡ true → digits_text (read_on m cs) ≡ digits_text m ++ cs
unfolding read_on
read_back m [] some digits = sym (append-nil (digits_text m))
read_back m (c ∷ cs) some digits =
    let parts = and_parts (is_digit c) (list_all is_digit cs) digits in
    let bounds = and_parts (nat_le 48 c) (nat_le c 57) parts.0 in
    let low = leb-true 48 c bounds.0 in
    let high = leb-true c 57 bounds.1 in
    let behind = read_back (m * 10 + (c - 48)) cs (omega (arith, some)) parts.1 in
    let more = more_digits (m * 10 + (c - 48)) (omega (arith, some)) in
    let front : (m * 10 + (c - 48)) / 10 ≡ m = omega (arith, low, high) in
    let last : 48 + (m * 10 + (c - 48)) % 10 ≡ c = omega (arith, low, high) in
    let written : digits_text (m * 10 + (c - 48)) ≡ digits_text m ++ c ∷ [] = more
    ∙ ap (λ k. digits_text k ++ (48 + (m * 10 + (c - 48)) % 10) ∷ []) front ∙ ap (λ k. digits_text m ++ k ∷ []) last in
    behind ∙ ap (λ t. t ++ cs) written ∙ append_assoc (digits_text m) (c ∷ []) cs

-- digits only make a number larger
more_than : (m : ℕ) (cs : List ℕ) → m ≤ read_on m cs
unfolding read_on
more_than m [] = omega arith
more_than m (c ∷ cs) = let inner = more_than (m * 10 + (c - 48)) cs in omega (arith, inner)

read_on_from : (c : ℕ) (cs : List ℕ) → read_on (c - 48) cs ≡ read_on 0 (c ∷ cs)
unfolding read_on
read_on_from c cs = let e : c - 48 ≡ 0 * 10 + (c - 48) = omega arith in ap (λ k. read_on k cs) e

magnitude_back : (cs : List ℕ) (n : ℕ) → magnitude_of cs ≡ Some n → (digits_text n ≡ cs) × (0 < n)
unfolding magnitude_of
magnitude_back [] n read = absurd (none_some read)
magnitude_back (c ∷ cs) n read =
    let is = allowed (list_all is_digit (c ∷ cs) && nat_le 49 c) (Some (read_on 0 (c ∷ cs))) n read in
    let parts = and_parts (list_all is_digit (c ∷ cs)) (nat_le 49 c) is.0 in
    let digits = and_parts (is_digit c) (list_all is_digit cs) parts.0 in
    let high = leb-true c 57 (and_parts (nat_le 48 c) (nat_le c 57) digits.0).1 in
    let low = leb-true 49 c parts.1 in
    by_first (read_on_from c cs ∙ same_some is.1) low high digits.1
  where
    by_first : read_on (c - 48) cs ≡ n → 49 ≤ c → c ≤ 57 → list_all is_digit cs ≡ true → (digits_text n ≡ c ∷ cs) × (0 < n)
    by_first e low high digits =
        let behind = read_back (c - 48) cs (omega (arith, low)) digits in
        let first : 48 + (c - 48) ≡ c = omega (arith, low) in
        let one : digits_text (c - 48) ≡ c ∷ [] = one_digit (c - 48) (omega (arith, high)) ∙ ap (λ d. d ∷ []) first in
        let more = more_than (c - 48) cs in
        (ap digits_text (sym e) ∙ behind ∙ ap (λ t. t ++ cs) one, omega (arith, low, more, e))

-- ---- numbers with a sign

nothing_read : (n : ℕ) → magnitude_of [] ≡ Some n → ⊥
unfolding magnitude_of
nothing_read n read = none_some read

no_digits : digits_text 0 ≡ codes "0"
unfolding digits_text
no_digits = refl

first_digit : (c : ℕ) (cs : List ℕ) (n : ℕ) → magnitude_of (c ∷ cs) ≡ Some n → 49 ≤ c
unfolding magnitude_of
first_digit c cs n read =
    let is = allowed (list_all is_digit (c ∷ cs) && nat_le 49 c) (Some (read_on 0 (c ∷ cs))) n read in
    leb-true 49 c (and_parts (list_all is_digit (c ∷ cs)) (nat_le 49 c) is.0).1

positive_forth : (n : ℕ) → 0 < n → number_of (digits_text n) ≡ Some (pos n)
unfolding number_of
positive_forth n some = by_text (digits_text n) refl (magnitude_forth n some)
  where
    by_text : (t : List ℕ) → digits_text n ≡ t → magnitude_of (digits_text n) ≡ Some n → number_of (digits_text n) ≡ Some (pos n)
    by_text [] is read = absurd (nothing_read n (rw is at read))
    by_text (c ∷ cs) is read =
        let digits : magnitude_of (c ∷ cs) ≡ Some n = rw is at read in
        let low = first_digit c cs n digits in
        let no_zero : bytes_eq (c ∷ cs) (codes "0") ≡ false = and_left (c == 48) (bytes_eq cs []) (ne_eqb c 48 (λ e. omega (arith, low))) in
        let no_minus : (c == 45) ≡ false = ne_eqb c 45 (λ e. omega (arith, low)) in
        let reads : number_of (c ∷ cs) ≡ Some (pos n) = rw (no_zero, no_minus, digits) refl in
        ap number_of is ∙ reads

pub number_forth : (z : ℤ) → number_of (numeral z) ≡ Some z
unfolding number_of numeral
number_forth (pos zero) = ap number_of no_digits
number_forth (pos (suc n)) = positive_forth (suc n) (omega arith)
number_forth (negsuc n) = rw (magnitude_forth (suc n) (omega arith)) refl

by_amount : (cs : List ℕ) (n : ℕ) (z : ℤ) → magnitude_of cs ≡ Some n → Some (negated n) ≡ Some z → 45 ∷ cs ≡ numeral z
unfolding numeral
by_amount cs zero z read is = let bad : ⊥ = omega (arith, (magnitude_back cs 0 read).1) in absurd bad
by_amount cs (suc n) z read is = ap (λ t. 45 ∷ t) (sym (magnitude_back cs (suc n) read).0) ∙ ap numeral (same_some is)

pub number_back : (t : List ℕ) (z : ℤ) → number_of t ≡ Some z → t ≡ numeral z
unfolding number_of numeral
number_back [] z read = absurd (none_some read)
number_back (c ∷ cs) z read = by_zero (bytes_eq (c ∷ cs) (codes "0")) refl read
  where
    by_sign : (t : Bool) → (c == 45) ≡ t → bytes_eq (c ∷ cs) (codes "0") ≡ false → number_of (c ∷ cs) ≡ Some z → c ∷ cs ≡ numeral z
    by_sign true minus other read =
        let rest : on_some (magnitude_of cs) (λ n. Some (negated n)) ≡ Some z = rw (other, minus) at read in
        let n = given (magnitude_of cs) (λ n. Some (negated n)) z rest in
        ap (λ d. d ∷ cs) (eqb-true c 45 minus) ∙ by_amount cs n.0 z n.1 n.2
    by_sign false plus other read =
        let rest : on_some (magnitude_of (c ∷ cs)) (λ n. Some (pos n)) ≡ Some z = rw (other, plus) at read in
        let n = given (magnitude_of (c ∷ cs)) (λ n. Some (pos n)) z rest in
        sym (magnitude_back (c ∷ cs) n.0 n.1).0 ∙ ap numeral (same_some n.2)

    by_zero : (t : Bool) → bytes_eq (c ∷ cs) (codes "0") ≡ t → number_of (c ∷ cs) ≡ Some z → c ∷ cs ≡ numeral z
    by_zero true zero_it read =
        let is : Some (pos 0) ≡ Some z = rw zero_it at read in
        same_word (c ∷ cs) (codes "0") zero_it ∙ sym no_digits ∙ ap numeral (same_some is)
    by_zero false other read = by_sign (c == 45) refl other read

-- ---- a test that each byte of a numeral passes

module _ (P : ℕ → Bool) (each : (c : ℕ) → is_digit c ≡ true → P c ≡ true) where
  each_passes : (cs : List ℕ) → list_all is_digit cs ≡ true → list_all P cs ≡ true
  each_passes [] digits = refl
  each_passes (c ∷ cs) digits =
      let parts = and_parts (is_digit c) (list_all is_digit cs) digits in
      and_from (P c) (list_all P cs) (each c parts.0) (each_passes cs parts.1)

  digits_pass : (n : ℕ) → list_all P (digits_text n) ≡ true
  digits_pass zero = rw no_digits (and_from (P 48) true (each 48 refl) refl)
  digits_pass (suc n) =
      rw (digits_are (suc n) (omega arith)) (each_passes (map (λ d. 48 + d) (digits_of 10 (suc n)))
      (are_digits (digits_of 10 (suc n)) (all_below_base_digits_of 10 (suc n) (omega arith))))

  pub numeral_all : (z : ℤ) → P 45 ≡ true → list_all P (numeral z) ≡ true
  unfolding numeral
  numeral_all (pos n) minus = digits_pass n
  numeral_all (negsuc n) minus = and_from (P 45) (list_all P (digits_text (suc n))) minus (digits_pass (suc n))

no_blank : (c : ℕ) → is_digit c ≡ true → not (c == 32) ≡ true
no_blank c digit = grind (arith, digit)

pub numeral_no_blank : (z : ℤ) → lacks 32 (numeral z) ≡ true
numeral_no_blank z = numeral_all (λ c. not (c == 32)) no_blank z refl
