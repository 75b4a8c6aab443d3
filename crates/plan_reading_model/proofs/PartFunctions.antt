-- Functions, and names of exports, both ways.
use Rattle.std.proofs.Common.{◌≡◌, ℕ, suc, Bool, true, false, not, ◌&&◌, ◌||◌, ◌==◌, List, [], ◌∷◌, ◌++◌, length, take, drop, Some}
use Rattle.std.proofs.Common.{◌⊎◌, inl, inr, nat_lt, nat_le, refl, sym, ap, subst, ◌∙◌, codes, arith, append_assoc}
use Rattle.std.specs.List.{list_all, flat_map}
use Rattle.std.specs.Str.{bytes_eq}
use Rattle.std.proofs.lemmas.Bool.{and_parts, or_cases, or_parts, or_from, not-true, not_from_false, false_from_ne_true, both_ways}
use Rattle.std.proofs.lemmas.List.{take-append-drop}
use Rattle.uno_model.proofs.Options.{same_some}
use Rattle.uno_model.specs.Names.{goes_on_identifier}
use Rattle.literal_model.specs.Literals.{escaped, quoted}
use Rattle.literal_model.specs.Shapes.{run_of, behind_run, is_word}
use Rattle.literal_model.proofs.ScanLaws.{front_rest}
use Rattle.plan_model.specs.Forms.{is_accessor, is_function_text, is_export_byte, is_export_name}
use Rattle.plan_reading_model.specs.Parts.{behind, run}
use Rattle.plan_reading_model.specs.Parts.{joined, is_accessor_front, function_at, closed_name, export_name_at}
use Rattle.plan_reading_model.proofs.PartRuns.{came, given, allowed, same_word, behind_said, behind_back, stops, run_said, stops_less}
use Rattle.plan_reading_model.proofs.PartNames.{word_bytes, run_back}

-- behind a function there is no `:` either, as behind `get`
abbrev pub is_function_byte : ℕ → Bool
is_function_byte c = goes_on_identifier c || (c == 58)

-- ---- functions

four_bytes : (w : List ℕ) → is_accessor w ≡ true → length (take 4 w) ≡ 4
four_bytes w is = by_word (or_cases (bytes_eq (take 4 w) (codes "get:")) (bytes_eq (take 4 w) (codes "set:")) is)
  where
    by_word : (bytes_eq (take 4 w) (codes "get:") ≡ true) ⊎ (bytes_eq (take 4 w) (codes "set:") ≡ true) → length (take 4 w) ≡ 4
    by_word (inl get) = ap length (same_word (take 4 w) (codes "get:") get)
    by_word (inr set) = ap length (same_word (take 4 w) (codes "set:") set)

accessor_front : (w rest : List ℕ) → length (take 4 w) ≡ 4 → (take 4 (w ++ rest) ≡ take 4 w) × (drop 4 (w ++ rest) ≡ drop 4 w ++ rest)
accessor_front (a ∷ b ∷ c ∷ d ∷ w) rest four = (refl, refl)
accessor_front [] rest four = let bad : ⊥ = omega (arith, four) in absurd bad
accessor_front (a ∷ []) rest four = let bad : ⊥ = omega (arith, four) in absurd bad
accessor_front (a ∷ b ∷ []) rest four = let bad : ⊥ = omega (arith, four) in absurd bad
accessor_front (a ∷ b ∷ c ∷ []) rest four = let bad : ⊥ = omega (arith, four) in absurd bad

begun_so : (test : ℕ → Bool) (c n : ℕ) (xs rest : List ℕ) → take (suc n) rest ≡ c ∷ xs → stops test rest ≡ true → test c ≡ true → ⊥
begun_so test c n xs [] e ends begun = let bad : ⊥ = cc in bad
begun_so test c n xs (r ∷ rs) e ends begun =
    let same : r ≡ c = cc in
    both_ways (test c) (not-true (test c) (ap (λ d. not (test d)) (sym same) ∙ ends)) begun

-- a word has no `:` as its fourth byte, and none stands behind it
no_colon : (a b c : ℕ) (w rest : List ℕ) → is_function_byte a ≡ true → is_function_byte b ≡ true → is_function_byte c ≡ true
    → list_all goes_on_identifier w ≡ true → stops is_function_byte rest ≡ true → take 4 (w ++ rest) ≡ a ∷ (b ∷ (c ∷ (58 ∷ []))) → ⊥
no_colon a b c [] rest p q r all ends e = begun_so is_function_byte a 3 (b ∷ (c ∷ (58 ∷ []))) rest e ends p
no_colon a b c (x ∷ []) rest p q r all ends e =
    let behind : take 3 rest ≡ b ∷ (c ∷ (58 ∷ [])) = cc in begun_so is_function_byte b 2 (c ∷ (58 ∷ [])) rest behind ends q
no_colon a b c (x ∷ y ∷ []) rest p q r all ends e =
    let behind : take 2 rest ≡ c ∷ (58 ∷ []) = cc in begun_so is_function_byte c 1 (58 ∷ []) rest behind ends r
no_colon a b c (x ∷ y ∷ z ∷ []) rest p q r all ends e =
    let behind : take 1 rest ≡ 58 ∷ [] = cc in begun_so is_function_byte 58 0 [] rest behind ends refl
no_colon a b c (x ∷ y ∷ z ∷ u ∷ w) rest p q r all ends e =
    let same : u ≡ 58 = cc in
    let one = and_parts (goes_on_identifier x) (list_all goes_on_identifier (y ∷ z ∷ u ∷ w)) all in
    let two = and_parts (goes_on_identifier y) (list_all goes_on_identifier (z ∷ u ∷ w)) one.1 in
    let three = and_parts (goes_on_identifier z) (list_all goes_on_identifier (u ∷ w)) two.1 in
    let four = and_parts (goes_on_identifier u) (list_all goes_on_identifier w) three.1 in
    both_ways (goes_on_identifier u) (ap goes_on_identifier same) four.0

no_accessor : (w rest : List ℕ) → list_all goes_on_identifier w ≡ true → stops is_function_byte rest ≡ true
    → is_accessor_front (take 4 (w ++ rest)) ≡ false
no_accessor w rest all ends =
    let front = take 4 (w ++ rest) in
    or_from (bytes_eq front (codes "get:")) (bytes_eq front (codes "set:"))
    (false_from_ne_true (bytes_eq front (codes "get:")) (λ is. no_colon 103 101 116 w rest refl refl refl all ends (same_word front (codes "get:") is)))
    (false_from_ne_true (bytes_eq front (codes "set:")) (λ is. no_colon 115 101 116 w rest refl refl refl all ends (same_word front (codes "set:") is)))

letter_or_function : (c : ℕ) → not (is_function_byte c) ≡ true → not (goes_on_identifier c) ≡ true
letter_or_function c is = not_from_false (goes_on_identifier c) (or_parts (goes_on_identifier c) (c == 58) (not-true (is_function_byte c) is)).0

function_ends : (rest : List ℕ) → stops is_function_byte rest ≡ true → stops goes_on_identifier rest ≡ true
function_ends rest ends = stops_less goes_on_identifier is_function_byte rest letter_or_function ends

pub function_said : (w rest : List ℕ) → is_function_text w ≡ true → stops is_function_byte rest ≡ true → function_at (w ++ rest) ≡ Some (w, rest)
unfolding function_at is_function_text
function_said w rest is ends = by_accessor (is_accessor w) refl
  where
    by_accessor : (b : Bool) → is_accessor w ≡ b → function_at (w ++ rest) ≡ Some (w, rest)
    by_accessor true accessor =
        let front = accessor_front w rest (four_bytes w accessor) in
        let word : is_word (drop 4 w) ≡ true = rw accessor at is in
        let e = run_said goes_on_identifier (drop 4 w) rest (word_bytes (drop 4 w) word) (function_ends rest ends) in
        let whole : take 4 w ++ drop 4 w ≡ w = take-append-drop 4 w in
        rw (front.0, accessor, front.1, e.0, e.1, whole, accessor, word) refl
    by_accessor false plain =
        let word : is_word w ≡ true = rw plain at is in
        let front = no_accessor w rest (word_bytes w word) ends in
        let e = run_said goes_on_identifier w rest (word_bytes w word) (function_ends rest ends) in
        rw (front, e.0, e.1, plain, word) refl

pub function_back : (bytes : List ℕ) (x : List ℕ × List ℕ) → function_at bytes ≡ Some x → (is_function_text x.0 ≡ true) × (bytes ≡ x.0 ++ x.1)
unfolding function_at
function_back bytes x e = by_accessor (is_accessor_front (take 4 bytes)) refl
  where
    by_accessor : (b : Bool) → is_accessor_front (take 4 bytes) ≡ b → (is_function_text x.0 ≡ true) × (bytes ≡ x.0 ++ x.1)
    by_accessor true accessor =
        let word = run goes_on_identifier (drop 4 bytes) in
        let is = allowed (is_function_text (take 4 bytes ++ word.0)) (Some (joined (take 4 bytes) word)) x (rw accessor at e) in
        let split : bytes ≡ (take 4 bytes ++ word.0) ++ word.1 =
        sym (take-append-drop 4 bytes) ∙ ap (λ t. take 4 bytes ++ t) (front_rest goes_on_identifier (drop 4 bytes))
        ∙ sym (append_assoc (take 4 bytes) word.0 word.1) in
        came (λ (y : List ℕ × List ℕ). (is_function_text y.0 ≡ true) × (bytes ≡ y.0 ++ y.1)) is.1 (is.0, split)
    by_accessor false plain = run_back goes_on_identifier is_function_text bytes x (rw plain at e)

-- ---- names of exports

-- what is quoted with no byte that wants a backslash
export_byte_itself : (c : ℕ) → is_export_byte c ≡ true → escaped c ≡ c ∷ []
export_byte_itself c is =
    let quote : ((c == 34) || (c == 92)) ≡ false = grind arith in
    let line : (c == 10) ≡ false = grind arith in
    rw (quote, line) refl

unescaped : (w : List ℕ) → list_all is_export_byte w ≡ true → flat_map escaped w ≡ w
unescaped [] all = refl
unescaped (c ∷ cs) all =
    let parts = and_parts (is_export_byte c) (list_all is_export_byte cs) all in
    let one = export_byte_itself c parts.0 in
    let others = unescaped cs parts.1 in
    ap (λ t. t ++ flat_map escaped cs) one ∙ ap (λ t. c ∷ t) others

export_bytes : (w : List ℕ) → is_export_name w ≡ true → list_all is_export_byte w ≡ true
unfolding is_export_name
export_bytes w is = (and_parts (nat_lt 0 (length w) && nat_le (length w) 64) (list_all is_export_byte w) is).1

quoted_is : (w rest : List ℕ) → is_export_name w ≡ true → quoted w ++ rest ≡ 34 ∷ (w ++ 34 ∷ rest)
quoted_is w rest is = ap (λ t. (34 ∷ t ++ 34 ∷ []) ++ rest) (unescaped w (export_bytes w is)) ∙ ap (λ t. 34 ∷ t) (append_assoc w (34 ∷ []) rest)

pub export_name_said : (w rest : List ℕ) → is_export_name w ≡ true → export_name_at (quoted w ++ rest) ≡ Some (w, rest)
unfolding export_name_at
export_name_said w rest is =
    let first : behind (codes "\"") (34 ∷ (w ++ 34 ∷ rest)) ≡ Some (w ++ 34 ∷ rest) = behind_said (codes "\"") (w ++ 34 ∷ rest) in
    let e = run_said is_export_byte w (34 ∷ rest) (export_bytes w is) refl in
    let last : behind (codes "\"") (34 ∷ rest) ≡ Some rest = behind_said (codes "\"") rest in
    rw (quoted_is w rest is, first, e.0, is, e.1, last) refl

pub export_name_back : (bytes : List ℕ) (x : List ℕ × List ℕ) → export_name_at bytes ≡ Some x → (is_export_name x.0 ≡ true) × (bytes ≡ quoted x.0 ++ x.1)
unfolding export_name_at
export_name_back bytes x e =
    let r = given (behind (codes "\"") bytes) (λ rest. closed_name (run is_export_byte rest)) x e in
    let is = allowed (is_export_name (run_of is_export_byte r.0)) _ x r.2 in
    let s = given (behind (codes "\"") (behind_run is_export_byte r.0)) (λ rest. Some (run_of is_export_byte r.0, rest)) x is.1 in
    let same : (run_of is_export_byte r.0, s.0) ≡ x = same_some s.2 in
    let split : bytes ≡ quoted (run_of is_export_byte r.0) ++ s.0 =
    behind_back (codes "\"") bytes r.0 r.1 ∙ ap (λ t. 34 ∷ t) (front_rest is_export_byte r.0)
    ∙ ap (λ t. 34 ∷ (run_of is_export_byte r.0 ++ t)) (behind_back (codes "\"") (behind_run is_export_byte r.0) s.0 s.1)
    ∙ sym (quoted_is (run_of is_export_byte r.0) s.0 is.0) in
    subst (λ (y : List ℕ × List ℕ). (is_export_name y.0 ≡ true) × (bytes ≡ quoted y.0 ++ y.1)) same (is.0, split)
