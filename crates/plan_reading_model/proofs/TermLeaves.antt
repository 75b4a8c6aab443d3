-- Numbers, words and quoted texts that are spelled are read as terms.
use Rattle.std.proofs.Common.{◌≡◌, ℕ, suc, ◌<◌, ℤ, pos, negsuc, Bool, true, false, not, ◌||◌, ◌==◌, List, [], ◌∷◌, ◌++◌, length, Some}
use Rattle.std.proofs.Common.{Result, Ok, Err, if◌then◌else◌, refl, ap, subst, ◌∙◌, append_assoc, arith}
use Rattle.std.proofs.lemmas.Bool.{and_parts, or_parts, leb-true, ltb-true, not-true, not_from_false, eqb-true, both_ways}
use Rattle.std.specs.Fmt.{signed_decimal}
use Rattle.std.specs.List.{list_all, flat_map}
use Rattle.std.specs.Str.{is_utf8}
use Rattle.uno_model.specs.Entities.{Entity}
use Rattle.uno_model.specs.Kinds.{Kind}
use Rattle.uno_model.specs.Kinds as kd
use Rattle.uno_model.specs.Names.{begins_identifier, goes_on_identifier}
use Rattle.literal_model.specs.Literals.{Token, opens, square, curly, number, string, named, cast, escaped, quoted}
use Rattle.literal_model.specs.Literals as token
use Rattle.literal_model.specs.Shapes.{largest, lowest, run_of, behind_run, is_word, is_known_word, string_at, type_at, cast_of, number_at, value_at, on_ok}
use Rattle.literal_model.proofs.ScanBackLaws.{ends_run, NumberFits, number_back, string_back}
use Rattle.literal_model.proofs.ScanLaws.{not_ok}
use Rattle.plan_model.specs.Forms.{is_number}
use Rattle.plan_model.specs.Lines.{Term, leaf}
use Rattle.plan_reading_model.specs.TermReading.{Reads, known_word, behind_word, letters_at, term_step}
use Rattle.plan_reading_model.proofs.PartRuns.{stops, run_said, stops_less}
use Rattle.plan_reading_model.proofs.PartNames.{word_bytes}

-- behind a term no word goes on, and no parenthesis opens
abbrev pub is_term_byte : ℕ → Bool
is_term_byte c = goes_on_identifier c || (c == 40)

letter_or_term : (c : ℕ) → not (is_term_byte c) ≡ true → not (goes_on_identifier c) ≡ true
letter_or_term c is = not_from_false (goes_on_identifier c) (or_parts (goes_on_identifier c) (c == 40) (not-true (is_term_byte c) is)).0

pub term_ends : (rest : List ℕ) → stops is_term_byte rest ≡ true → stops goes_on_identifier rest ≡ true
term_ends rest ends = stops_less goes_on_identifier is_term_byte rest letter_or_term ends

-- ---- numbers

-- of two, the second, where the first cannot be
skip : {X : Type 0} (b : Bool) (x y v : X) → (if b then x else y) ≡ v → (x ≡ v → ⊥) → (b ≡ false) × (y ≡ v)
skip true x y v e bad = absurd (bad e)
skip false x y v e bad = (refl, e)

abbrev Tokens : Type 0
Tokens = Result (Token × List ℕ) ℕ

abbrev is_number_token : Token → Bool
is_number_token (number n) = true
is_number_token _ = false

abbrev reads_number : Tokens → Bool
reads_number (Ok x) = is_number_token x.0
reads_number (Err left) = false

no_number : (m : Tokens) (z : ℤ) (r : List ℕ) → reads_number m ≡ false → m ≡ Ok (number z, r) → ⊥
no_number m z r other e = both_ways (reads_number m) other (ap reads_number e)

no_string : (m : Result (List ℕ × List ℕ) ℕ) (z : ℤ) (r : List ℕ) → on_ok {B = Token × List ℕ} m (λ x. Ok (string x.0, x.1)) ≡ Ok (number z, r) → ⊥
no_string (Ok x) z r e = no_number (Ok (string x.0, x.1)) z r refl e
no_string (Err left) z r e = not_ok left (number z, r) e

no_named : (m : Result (Kind × List ℕ) ℕ) (z : ℤ) (r : List ℕ) → on_ok {B = Token × List ℕ} m (λ x. Ok (named x.0, x.1)) ≡ Ok (number z, r) → ⊥
no_named (Ok x) z r e = no_number (Ok (named x.0, x.1)) z r refl e
no_named (Err left) z r e = not_ok left (number z, r) e

no_cast_of : (left : ℕ) (k : Kind) (cs : List ℕ) (z : ℤ) (r : List ℕ) → cast_of left (k, cs) ≡ Ok (number z, r) → ⊥
no_cast_of left kd.any cs z r e = not_ok left (number z, r) e
no_cast_of left k cs z r e = no_number (Ok (cast k, cs)) z r refl e

no_cast : (m : Result (Kind × List ℕ) ℕ) (left : ℕ) (z : ℤ) (r : List ℕ) → on_ok m (cast_of left) ≡ Ok (number z, r) → ⊥
no_cast (Ok x) left z r e = no_cast_of left x.0 x.1 z r e
no_cast (Err l) left z r e = not_ok l (number z, r) e

no_word : (b : Bool) (w r s : List ℕ) (left : ℕ) (z : ℤ) → ◌≡◌ {A = Tokens} (if b then Ok (token.word w, s) else Err left) (Ok (number z, r)) → ⊥
no_word true w r s left z e = no_number (Ok (token.word w, s)) z r refl e
no_word false w r s left z e = not_ok left (number z, r) e

no_dollar : (c : ℕ) (cs : List ℕ) (z : ℤ) (r : List ℕ) → (c == 36) ≡ true → number_at (c ∷ cs) ≡ Ok (number z, r) → ⊥
no_dollar c cs z r dollar e =
    let at : number_at (36 ∷ cs) ≡ Ok (number z, r) = subst (λ d. number_at (d ∷ cs) ≡ Ok (number z, r)) (eqb-true c 36 dollar) e in
    not_ok (suc (length cs)) (number z, r) at

-- what the literals read as a number is read as one
number_step : (reg : List Entity) (read : Reads Term) (bytes : List ℕ) (z : ℤ) (r : List ℕ) → value_at reg bytes ≡ Ok (number z, r)
    → term_step reg read bytes ≡ Some (leaf (number z), r)
unfolding value_at term_step
number_step reg read [] z r e = absurd (not_ok 0 (number z, r) e)
number_step reg read (c ∷ cs) z r e =
    let a = skip (c == 91) _ _ _ e (no_number (Ok (opens square, cs)) z r refl) in
    let b = skip (c == 123) _ _ _ a.1 (no_number (Ok (opens curly, cs)) z r refl) in
    let s = skip (c == 34) _ _ _ b.1 (λ bad. no_string (string_at false cs) z r bad) in
    let n = skip (c == 60) _ _ _ s.1 (λ bad. no_named (type_at reg 62 cs) z r bad) in
    let k = skip (c == 40) _ _ _ n.1 (λ bad. no_cast (type_at reg 41 cs) (length cs) z r bad) in
    let w = skip (begins_identifier c) _ _ _ k.1
    (λ bad. no_word (is_known_word reg (run_of goes_on_identifier (c ∷ cs))) (run_of goes_on_identifier (c ∷ cs)) r
    (behind_run goes_on_identifier (c ∷ cs)) (suc (length cs)) z bad) in
    number_last a.0 b.0 s.0 n.0 k.0 w.0 w.1 (c == 36) refl
  where
    number_last : (c == 91) ≡ false → (c == 123) ≡ false → (c == 34) ≡ false → (c == 60) ≡ false → (c == 40) ≡ false → begins_identifier c ≡ false
        → number_at (c ∷ cs) ≡ Ok (number z, r) → (d : Bool) → (c == 36) ≡ d → term_step reg read (c ∷ cs) ≡ Some (leaf (number z), r)
    number_last a b s n k w e true dollar = absurd (no_dollar c cs z r dollar e)
    number_last a b s n k w e false other = rw (a, b, s, n, k, other, w, e) refl

number_fits : (z : ℤ) → is_number z ≡ true → NumberFits z
number_fits (pos n) is = leb-true n largest is
number_fits (negsuc n) is = let below : n < lowest = ltb-true n lowest is in omega (arith, below)

ends_same : (rest : List ℕ) → stops goes_on_identifier rest ≡ true → ends_run rest ≡ true
ends_same [] ends = refl
ends_same (c ∷ cs) ends = ends

pub number_said : (reg : List Entity) (read : Reads Term) (z : ℤ) (rest : List ℕ) → is_number z ≡ true → stops is_term_byte rest ≡ true
    → term_step reg read (signed_decimal z ++ rest) ≡ Some (leaf (number z), rest)
number_said reg read z rest is ends =
    number_step reg read (signed_decimal z ++ rest) z rest (number_back reg z rest (number_fits z is) (ends_same rest (term_ends rest ends)))

pub some_number : (z : ℤ) → is_number z ≡ true → signed_decimal z ≡ [] → ⊥
unfolding value_at
some_number z is none =
    let read : value_at [] (signed_decimal z ++ []) ≡ Ok (number z, []) = number_back [] z [] (number_fits z is) refl in
    let at : value_at [] [] ≡ Ok (number z, []) = subst (λ t. value_at [] (t ++ []) ≡ Ok (number z, [])) none read in
    not_ok 0 (number z, []) at

-- ---- words

abbrev IsLetter : ℕ → Type 0
IsLetter c = ((((((c == 91) ≡ false) × ((c == 123) ≡ false)) × ((c == 34) ≡ false)) × ((c == 60) ≡ false)) × ((c == 40) ≡ false)) × ((c == 36) ≡ false)

letter_is : (c : ℕ) → begins_identifier c ≡ true → IsLetter c
letter_is c begun = (((((grind arith, grind arith), grind arith), grind arith), grind arith), grind arith)

-- what begins with a letter is read as a word
pub letters_step : (reg : List Entity) (read : Reads Term) (c : ℕ) (cs : List ℕ) → begins_identifier c ≡ true
    → term_step reg read (c ∷ cs) ≡ letters_at reg read (c ∷ cs)
unfolding term_step
letters_step reg read c cs begun = let is = letter_is c begun in rw (is.0.0.0.0.0, is.0.0.0.0.1, is.0.0.0.1, is.0.0.1, is.0.1, is.1, begun) refl

word_ends : (reg : List Entity) (read : Reads Term) (w rest : List ℕ) → stops is_term_byte rest ≡ true → behind_word reg read w rest ≡ known_word reg w rest
word_ends reg read w [] ends = refl
word_ends reg read w (c ∷ cs) ends =
    let other = (or_parts (goes_on_identifier c) (c == 40) (not-true (is_term_byte c) ends)).1 in
    rw other refl

pub letters_said : (reg : List Entity) (read : Reads Term) (w rest : List ℕ) → list_all goes_on_identifier w ≡ true → stops goes_on_identifier rest ≡ true
    → letters_at reg read (w ++ rest) ≡ behind_word reg read w rest
unfolding letters_at
letters_said reg read w rest all ends = let e = run_said goes_on_identifier w rest all ends in rw (e.0, e.1) refl

pub known_said : (reg : List Entity) (read : Reads Term) (w rest : List ℕ) → is_word w ≡ true → is_known_word reg w ≡ true → stops is_term_byte rest ≡ true
    → term_step reg read (w ++ rest) ≡ Some (leaf (token.word w), rest)
known_said reg read [] rest is known ends = absurd (both_ways false refl is)
known_said reg read (c ∷ cs) rest is known ends =
    let begun = (and_parts (begins_identifier c) (list_all goes_on_identifier cs) is).0 in
    let known_it : known_word reg (c ∷ cs) rest ≡ Some (leaf (token.word (c ∷ cs)), rest) = rw known refl in
    letters_step reg read c (cs ++ rest) begun ∙ letters_said reg read (c ∷ cs) rest (word_bytes (c ∷ cs) is) (term_ends rest ends)
    ∙ word_ends reg read (c ∷ cs) rest ends ∙ known_it

-- ---- quoted texts

pub text_said : (reg : List Entity) (read : Reads Term) (s rest : List ℕ) → is_utf8 s ≡ true
    → term_step reg read (quoted s ++ rest) ≡ Some (leaf (string s), rest)
unfolding term_step
text_said reg read s rest is =
    let split : quoted s ++ rest ≡ 34 ∷ (flat_map escaped s ++ 34 ∷ rest) = ap (λ t. 34 ∷ t) (append_assoc (flat_map escaped s) (34 ∷ []) rest) in
    let at : term_step reg read (34 ∷ (flat_map escaped s ++ 34 ∷ rest)) ≡ Some (leaf (string s), rest) = rw (string_back s rest, is) refl in
    ap (term_step reg read) split ∙ at
