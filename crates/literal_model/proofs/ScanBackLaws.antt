-- The spelling of a token is scanned as that token.
use Rattle.std.proofs.Common.{◌≡◌, ℕ, zero, suc, ◌+◌, ◌-◌, ◌*◌, ◌^◌, ◌<◌, ◌≤◌, ℤ, pos, negsuc, Bool, true, false, not, ◌&&◌, ◌||◌, ◌==◌}
use Rattle.std.proofs.Common.{List, [], ◌∷◌, ◌++◌, length, get_or, Ok, refl, sym, ap, subst, ◌∙◌, arith, rules, nat_le}
use Rattle.std.proofs.lemmas.Bool.{and_parts, and_from, leb-true, le-leb, ne_eqb, eqb-true, eq-eqb, not-true, or_parts}
use Rattle.std.proofs.lemmas.Fmt.{decimal_digit, decimal_nonempty, first_decimal, digits_decimal, digits_value-decimal}
use Rattle.std.proofs.lemmas.Str.Parse.{IsNumeralModel, numerals_by_fold}
use Rattle.std.specs.Char.{is_ascii_digit}
use Rattle.std.specs.Fmt.{decimal, signed_decimal}
use Rattle.std.specs.List.{list_all, flat_map}
use Rattle.std.specs.Str.{all_ascii_digits}
use Rattle.uno_model.proofs.TypeTextLaws.{read_name}
use Rattle.uno_model.specs.Entities.{Entity}
use Rattle.uno_model.specs.Kinds.{Kind, name_of}
use Rattle.literal_model.specs.Literals.{escaped, number, word}
use Rattle.uno_model.specs.Names.{begins_identifier, goes_on_identifier}
use Rattle.literal_model.specs.Shapes.{largest, lowest, is_known_word, is_word, run_of, behind_run, digits_on}
use Rattle.literal_model.specs.Shapes.{digits_at, string_at, is_name_byte, type_at, word_at, value_at}
use Rattle.uno_model.specs.Sound.{is_named}
use Rattle.uno_model.specs.Types.{is_type}

-- no run goes on in what is behind
abbrev pub ends_run : List ℕ → Bool
ends_run [] = true
ends_run (c ∷ cs) = not (goes_on_identifier c)

-- ---- numbers

abbrev read_on : ℕ → List ℕ → ℕ
read_on n [] = n
read_on n (c ∷ cs) = read_on (n * 10 + (c - 48)) cs

own : IsNumeralModel (λ ds. all_ascii_digits ds ≡ true) (read_on 0)
own = numerals_by_fold _ (search rules) read_on (search rules)

read_on_more : (m : ℕ) (cs : List ℕ) → m ≤ read_on m cs
read_on_more m [] = omega arith
read_on_more m (c ∷ cs) = let inner = read_on_more (m * 10 + (c - 48)) cs in omega (arith, inner)

no_digit : (c : ℕ) → goes_on_identifier c ≡ false → (nat_le 48 c && nat_le c 57) ≡ false
no_digit c other = grind arith

digits_back : (limit m : ℕ) (cs r : List ℕ) → all_ascii_digits cs ≡ true → read_on m cs ≤ limit → ends_run r ≡ true → digits_on limit m (cs ++ r) ≡ Ok (read_on m cs, r)
unfolding digits_on
digits_back limit m [] [] digits within ends = refl
digits_back limit m [] (c ∷ r) digits within ends = rw (no_digit c (not-true _ ends)) refl
digits_back limit m (c ∷ cs) r digits within ends =
    let parts = and_parts (is_ascii_digit c) (all_ascii_digits cs) digits in
    let digit : (nat_le 48 c && nat_le c 57) ≡ true = grind (arith, parts.0) in
    let more = read_on_more (m * 10 + (c - 48)) cs in
    let few : nat_le (m * 10 + (c - 48)) limit ≡ true = le-leb (m * 10 + (c - 48)) limit (omega (arith, more, within)) in
    rw (digit, few) (digits_back limit (m * 10 + (c - 48)) cs r parts.1 within ends)

decimal_back : (limit n : ℕ) (r : List ℕ) → 1 ≤ n → n ≤ limit → limit < 2 ^ 64 → ends_run r ≡ true
    → (c : ℕ) × (cs : List ℕ) × (decimal n ≡ c ∷ cs) × (49 ≤ c) × (c ≤ 57) × (digits_at limit (decimal n ++ r) ≡ Ok (n, r))
decimal_back limit n r some within small ends = by_list (decimal n) refl
  where
    by_list : (ds : List ℕ) → decimal n ≡ ds → (c : ℕ) × (cs : List ℕ) × (decimal n ≡ c ∷ cs) × (49 ≤ c) × (c ≤ 57) × (digits_at limit (decimal n ++ r) ≡ Ok (n, r))
    by_list [] e = let long = decimal_nonempty n (omega arith) in let none : length (decimal n) ≡ 0 = ap length e in let bad : ⊥ = omega (arith, long, none) in absurd bad
    by_list (c ∷ cs) e =
        let digits : all_ascii_digits (c ∷ cs) ≡ true = subst (λ ds. all_ascii_digits ds ≡ true) e (digits_decimal own n (omega arith)) in
        let amount : read_on 0 (c ∷ cs) ≡ n = ap (read_on 0) (sym e) ∙ digits_value-decimal own n (omega arith) in
        let parts = and_parts (is_ascii_digit c) (all_ascii_digits cs) digits in
        let first : 48 < get_or (decimal n) 0 0 = first_decimal n (omega arith) (omega arith) in
        let low : 48 < c = subst (λ ds. 48 < get_or ds 0 0) e first in
        let digit : (nat_le 48 c && nat_le c 57) ≡ true = grind (arith, parts.0) in
        let high = leb-true c 57 (and_parts (nat_le 48 c) (nat_le c 57) digit).1 in
        let both : (nat_le 49 c && nat_le c 57) ≡ true = and_from _ _ (le-leb 49 c (omega (arith, low))) (le-leb c 57 high) in
        let begun : read_on (c - 48) cs ≡ n = ap (λ m. read_on m cs) (zero_ten (c - 48)) ∙ amount in
        let reads : digits_at limit (c ∷ (cs ++ r)) ≡ Ok (n, r) = rw both (digits_back limit (c - 48) cs r parts.1 (omega (arith, begun)) ends ∙ ap (λ m. Ok (m, r)) begun) in
        (c, cs, e, omega (arith, low), high, ap (λ ds. digits_at limit (ds ++ r)) e ∙ reads)
      where
        zero_ten : (k : ℕ) → k ≡ 0 * 10 + k
        zero_ten k = omega arith

-- the first bytes of tokens differ
plain_front : (c : ℕ) → 49 ≤ c → c ≤ 57
    → (((((((c == 91) ≡ false) × ((c == 123) ≡ false)) × ((c == 34) ≡ false)) × ((c == 60) ≡ false)) × ((c == 40) ≡ false))
    × (begins_identifier c ≡ false)) × (((c == 48) ≡ false) × ((c == 45) ≡ false))
plain_front c low high = (
  (
    (
      (((ne_eqb c 91 (λ e. omega arith), ne_eqb c 123 (λ e. omega arith)), ne_eqb c 34 (λ e. omega arith)), ne_eqb c 60 (λ e. omega arith)),
      ne_eqb c 40 (λ e. omega arith),
    ),
    grind arith,
  ),
  (ne_eqb c 48 (λ e. omega arith), ne_eqb c 45 (λ e. omega arith)),
)

abbrev pub NumberFits : ℤ → Type 0
NumberFits (pos n) = n ≤ largest
NumberFits (negsuc n) = suc n ≤ lowest

pub number_back : (reg : List Entity) (z : ℤ) (r : List ℕ) → NumberFits z → ends_run r ≡ true → value_at reg (signed_decimal z ++ r) ≡ Ok (number z, r)
unfolding value_at
number_back reg (pos zero) r fits ends = ap (λ ds. value_at reg (ds ++ r)) (decimal_digit 0 (omega arith))
number_back reg (pos (suc n)) r fits ends =
    let at = decimal_back largest (suc n) r (omega arith) fits (omega arith) ends in
    by_first at.0 at.1 at.2 at.3 at.4 at.5
  where
    by_first : (c : ℕ) (cs : List ℕ) → decimal (suc n) ≡ c ∷ cs → 49 ≤ c → c ≤ 57 → digits_at largest (decimal (suc n) ++ r) ≡ Ok (suc n, r)
        → value_at reg (decimal (suc n) ++ r) ≡ Ok (number (pos (suc n)), r)
    by_first c cs e low high reads =
        let apart = plain_front c low high in
        let digits : digits_at largest (c ∷ (cs ++ r)) ≡ Ok (suc n, r) = ap (λ ds. digits_at largest (ds ++ r)) (sym e) ∙ reads in
        let value_it : value_at reg (c ∷ (cs ++ r)) ≡ Ok (number (pos (suc n)), r) =
        numbers c (cs ++ r) apart.0.0.0.0.0.0 apart.0.0.0.0.0.1 apart.0.0.0.0.1 apart.0.0.0.1 apart.0.0.1 apart.0.1 apart.1.0 apart.1.1 digits in
        ap (λ ds. value_at reg (ds ++ r)) e ∙ value_it
      where
        numbers : (d : ℕ) (ds : List ℕ) → (d == 91) ≡ false → (d == 123) ≡ false → (d == 34) ≡ false → (d == 60) ≡ false → (d == 40) ≡ false
            → begins_identifier d ≡ false → (d == 48) ≡ false → (d == 45) ≡ false
            → digits_at largest (d ∷ ds) ≡ Ok (suc n, r) → value_at reg (d ∷ ds) ≡ Ok (number (pos (suc n)), r)
        numbers d ds f g h i j k l m digits = rw (f, g, h, i, j, k, l, m, digits) refl
number_back reg (negsuc n) r fits ends =
    let at = decimal_back lowest (suc n) r (omega arith) fits (omega arith) ends in
    let back : suc n - 1 ≡ n = omega arith in
    rw at.5 (ap (λ m. Ok (number (negsuc m), r)) back)

-- ---- runs

-- what may not stand in a run ends it
abbrev stops : (ℕ → Bool) → List ℕ → Bool
stops test [] = true
stops test (c ∷ cs) = not (test c)

front_back : (test : ℕ → Bool) (xs r : List ℕ) → list_all test xs ≡ true → stops test r ≡ true → run_of test (xs ++ r) ≡ xs
unfolding run_of
front_back test [] [] all ends = refl
front_back test [] (c ∷ r) all ends = rw (not-true _ ends) refl
front_back test (x ∷ xs) r all ends = let parts = and_parts (test x) (list_all test xs) all in rw parts.0 (ap (λ ys. x ∷ ys) (front_back test xs r parts.1 ends))

rest_back : (test : ℕ → Bool) (xs r : List ℕ) → list_all test xs ≡ true → stops test r ≡ true → behind_run test (xs ++ r) ≡ r
unfolding behind_run
rest_back test [] [] all ends = refl
rest_back test [] (c ∷ r) all ends = rw (not-true _ ends) refl
rest_back test (x ∷ xs) r all ends = let parts = and_parts (test x) (list_all test xs) all in rw parts.0 (rest_back test xs r parts.1 ends)

ends_stops : (r : List ℕ) → ends_run r ≡ true → stops goes_on_identifier r ≡ true
ends_stops [] ends = refl
ends_stops (c ∷ r) ends = ends

goes_on_begun : (c : ℕ) → begins_identifier c ≡ true → goes_on_identifier c ≡ true
goes_on_begun c begun = grind arith

letter_front : (c : ℕ) → begins_identifier c ≡ true → ((((c == 91) ≡ false) × ((c == 123) ≡ false)) × ((c == 34) ≡ false)) × (((c == 60) ≡ false) × ((c == 40) ≡ false))
letter_front c begun = (((grind arith, grind arith), grind arith), (grind arith, grind arith))

pub word_back : (reg : List Entity) (w r : List ℕ) → is_word w ≡ true → is_known_word reg w ≡ true → ends_run r ≡ true → value_at reg (w ++ r) ≡ Ok (word w, r)
unfolding value_at
word_back reg [] r is known ends = let bad : ⊥ = cc in absurd bad
word_back reg (c ∷ cs) r is known ends =
    let parts = and_parts (begins_identifier c) (list_all goes_on_identifier cs) is in
    let all : list_all goes_on_identifier (c ∷ cs) ≡ true = and_from _ _ (goes_on_begun c parts.0) parts.1 in
    let front_it : run_of goes_on_identifier (c ∷ (cs ++ r)) ≡ c ∷ cs = front_back goes_on_identifier (c ∷ cs) r all (ends_stops r ends) in
    let rest_it : behind_run goes_on_identifier (c ∷ (cs ++ r)) ≡ r = rest_back goes_on_identifier (c ∷ cs) r all (ends_stops r ends) in
    let apart = letter_front c parts.0 in
    let word_it : word_at reg (c ∷ (cs ++ r)) ≡ Ok (word (c ∷ cs), r) = rw (front_it, known, rest_it) refl in
    words c (cs ++ r) apart.0.0.0 apart.0.0.1 apart.0.1 apart.1.0 apart.1.1 parts.0 word_it
  where
    words : (d : ℕ) (ds : List ℕ) → (d == 91) ≡ false → (d == 123) ≡ false → (d == 34) ≡ false → (d == 60) ≡ false → (d == 40) ≡ false
        → begins_identifier d ≡ true → word_at reg (d ∷ ds) ≡ Ok (word (c ∷ cs), r) → value_at reg (d ∷ ds) ≡ Ok (word (c ∷ cs), r)
    words d ds f g h i j k is_it = rw (f, g, h, i, j, k) is_it

-- ---- quoted texts

pub string_back : (s r : List ℕ) → string_at false (flat_map escaped s ++ 34 ∷ r) ≡ Ok (s, r)
unfolding string_at
string_back [] r = refl
string_back (c ∷ cs) r = by_mark ((c == 34) || (c == 92)) refl (string_back cs r)
  where
    more : List ℕ
    more = flat_map escaped cs ++ 34 ∷ r

    Whole : Type 0
    Whole = string_at false ((escaped c ++ flat_map escaped cs) ++ 34 ∷ r) ≡ Ok (c ∷ cs, r)

    quote_other : (d : ℕ) → ((d == 34) || (d == 92)) ≡ true → (d == 110) ≡ false
    quote_other d mark = grind arith

    by_line : (b : Bool) → ((c == 34) || (c == 92)) ≡ false → (c == 10) ≡ b → string_at false (flat_map escaped cs ++ 34 ∷ r) ≡ Ok (cs, r) → Whole
    by_line true other line inner =
        let is : c ≡ 10 = eqb-true c 10 line in
        let itself : escaped c ≡ 92 ∷ (110 ∷ []) = rw (other, line) refl in
        rw itself (rw inner (ap (λ d. Ok (d ∷ cs, r)) (sym is)))
    by_line false other no_line inner =
        let itself : escaped c ≡ c ∷ [] = rw (other, no_line) refl in
        let parts = or_parts (c == 34) (c == 92) other in
        rw itself (rw (parts.0, parts.1, no_line, inner) refl)

    by_mark : (b : Bool) → ((c == 34) || (c == 92)) ≡ b → string_at false (flat_map escaped cs ++ 34 ∷ r) ≡ Ok (cs, r) → Whole
    by_mark true mark inner =
        let itself : escaped c ≡ 92 ∷ (c ∷ []) = rw mark refl in
        let no_letter = quote_other c mark in
        rw itself (rw (no_letter, mark, inner) refl)
    by_mark false other inner = by_line (c == 10) other refl inner

-- ---- types

pub type_back : (reg : List Entity) (mark : ℕ) (k : Kind) (r : List ℕ) → list_all is_named reg ≡ true → is_type reg k ≡ true
    → list_all is_name_byte (name_of k) ≡ true → is_name_byte mark ≡ false → type_at reg mark (name_of k ++ mark ∷ r) ≡ Ok (k, r)
type_back reg mark k r named_all type bytes other =
    let stops_it : stops is_name_byte (mark ∷ r) ≡ true = rw other refl in
    let front_it = front_back is_name_byte (name_of k) (mark ∷ r) bytes stops_it in
    let rest_it = rest_back is_name_byte (name_of k) (mark ∷ r) bytes stops_it in
    let same : (mark == mark) ≡ true = eq-eqb mark mark refl in
    rw (rest_it, same, front_it, read_name reg k named_all type) refl
