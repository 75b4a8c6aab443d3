-- Runs of two parts stand in front of a text as they are.
use Rattle.std.proofs.Common.{◌≡◌, ℕ, ◌+◌, ◌≤◌, Bool, true, false, ◌==◌, ◌||◌, List, [], ◌∷◌, ◌++◌, length, take, drop, Option, None, Some, option_map, IsTrue, Bor, refl, sym, ap, ◌∙◌, arith, codes, if◌then◌else◌}
use Rattle.std.proofs.lemmas.Bool.{eqb-true}
use Rattle.std.proofs.lemmas.List.{take_at, append_assoc, length-append, length-drop}
use Rattle.std.proofs.Math.Seq.{take-add}
use Rattle.std.proofs.lemmas.Slice.Eq.{bytes_eq-Decides}
use Rattle.std.specs.List.{list_all}
use Rattle.std.specs.Str.{bytes_eq}
use Rattle.literal_model.specs.Shapes.{run_of, behind_run}
use Rattle.literal_model.proofs.ScanLaws.{front_rest}
use Rattle.uno_model.specs.Names.{goes_on_identifier}
use Rattle.plan_reading_model.specs.Parts.{run, type_words, two_words, with_second, is_second_word, is_accessor_front, is_type_byte, behind_brackets}
use Rattle.plan_lines.specs.Classes.{is_ascii}
use Rattle.plan_model.specs.Forms.{is_accessor}
use Rattle.plan_lines.specs.Reads.{both}
use Rattle.plan_lines.specs.Runs.{function_run, second_in, second_at, with_second_at}
use Rattle.plan_lines.proofs.ClassLemmas.{ascii_behind}

-- ---- types of two words

second_split : (x first : List ℕ × List ℕ) (b : Bool) → is_second_word x.0 ≡ b
    → (if b then (first.0 ++ (32 ∷ x.0), x.1) else first) ≡ with_second_at first (if b then Some x else None)
second_split x first true is = refl
second_split x first false is = refl

pub two_words_are : (front rest : List ℕ) → two_words (front, rest) ≡ with_second_at (front, rest) (second_at rest)
unfolding second_at
two_words_are front [] = refl
two_words_are front (c ∷ cs) = by_blank (c == 32)
  where
    by_blank : (b : Bool) → (if b then with_second (front, c ∷ cs) (run goes_on_identifier cs) else (front, c ∷ cs))
        ≡ with_second_at (front, c ∷ cs) (if b then second_in (run goes_on_identifier cs) else None)
    by_blank true = second_split (run goes_on_identifier cs) (front, c ∷ cs) (is_second_word (run_of goes_on_identifier cs)) refl
    by_blank false = refl

second_is_ascii : (word : List ℕ) → is_second_word word ≡ true → list_all is_ascii word ≡ true
second_is_ascii word is = by_short (bytes_eq word (codes "short")) refl is
  where
    by_long : (b : Bool) → bytes_eq word (codes "long") ≡ b → (b || bytes_eq word (codes "hyper")) ≡ true → list_all is_ascii word ≡ true
    by_long true same e = ap (list_all is_ascii) ((bytes_eq-Decides word (codes "long")).0 same)
    by_long false other e = ap (list_all is_ascii) ((bytes_eq-Decides word (codes "hyper")).0 e)

    by_short : (b : Bool) → bytes_eq word (codes "short") ≡ b → (b || (bytes_eq word (codes "long") || bytes_eq word (codes "hyper"))) ≡ true → list_all is_ascii word ≡ true
    by_short true same e = ap (list_all is_ascii) ((bytes_eq-Decides word (codes "short")).0 same)
    by_short false other e = by_long (bytes_eq word (codes "long")) refl e

-- a second word, its blank and what stands behind it
pub second_stands : (rest second behind : List ℕ) → second_at rest ≡ Some (second, behind) → rest ≡ 32 ∷ (second ++ behind)
unfolding second_at
second_stands [] second behind is = absurd cc
second_stands (c ∷ cs) second behind is = by_blank (c == 32) refl is
  where
    by_word : (b : Bool) → (if b then Some (run goes_on_identifier cs) else None) ≡ Some (second, behind) → cs ≡ second ++ behind
    by_word true e = let same : run goes_on_identifier cs ≡ (second, behind) = cc in front_rest goes_on_identifier cs ∙ ap (λ x. x.0 ++ x.1) same
    by_word false e = absurd cc

    by_blank : (b : Bool) → (c == 32) ≡ b → (if b then second_in (run goes_on_identifier cs) else None) ≡ Some (second, behind) → c ∷ cs ≡ 32 ∷ (second ++ behind)
    by_blank true blank e =
        let first : c ≡ 32 = eqb-true c 32 blank in
        let others = by_word (is_second_word (run_of goes_on_identifier cs)) e in
        rw (first, others) refl
    by_blank false other e = absurd cc

-- the words of a type, where no second one stands there
pub one_word : (bytes front rest : List ℕ) (o : Option (Bor (List ℕ) × Bor (List ℕ))) → front ≡ run_of is_type_byte bytes → rest ≡ behind_run is_type_byte bytes
    → bytes_eq (behind_brackets front) (codes "unsigned") ≡ true → option_map both o ≡ second_at rest → o ≡ None
    → (front, rest) ≡ type_words (run is_type_byte bytes)
one_word bytes front rest o front_is rest_is unsigned second none =
    let none_there : second_at rest ≡ None = sym second ∙ ap (option_map both) none in
    let words : type_words (front, rest) ≡ two_words (front, rest) = rw unsigned refl in
    let whole : (front, rest) ≡ run is_type_byte bytes = ap (λ f. (f, rest)) front_is ∙ ap (λ r. (run_of is_type_byte bytes, r)) rest_is in
    sym (sym (ap type_words whole) ∙ words ∙ two_words_are front rest ∙ ap (with_second_at (front, rest)) none_there)

-- and where one does
pub two_words_run : (bytes front rest second behind : List ℕ) → front ≡ run_of is_type_byte bytes → rest ≡ behind_run is_type_byte bytes
    → bytes_eq (behind_brackets front) (codes "unsigned") ≡ true → Some (second, behind) ≡ second_at rest
    → (front ++ 32 ∷ second, behind) ≡ type_words (run is_type_byte bytes)
two_words_run bytes front rest second behind front_is rest_is unsigned there =
    let words : type_words (front, rest) ≡ two_words (front, rest) = rw unsigned refl in
    let whole : (front, rest) ≡ run is_type_byte bytes = ap (λ f. (f, rest)) front_is ∙ ap (λ r. (run_of is_type_byte bytes, r)) rest_is in
    sym (sym (ap type_words whole) ∙ words ∙ two_words_are front rest ∙ ap (with_second_at (front, rest)) (sym there))

-- the two words are the front of the text
words_whole : (bytes front rest second behind : List ℕ) → front ≡ run_of is_type_byte bytes → rest ≡ behind_run is_type_byte bytes
    → Some (second, behind) ≡ second_at rest → bytes ≡ (front ++ 32 ∷ second) ++ behind
words_whole bytes front rest second behind front_is rest_is there =
    let split : bytes ≡ front ++ rest = front_rest is_type_byte bytes ∙ ap (λ f. f ++ behind_run is_type_byte bytes) (sym front_is) ∙ ap (λ r. front ++ r) (sym rest_is) in
    split ∙ ap (λ t. front ++ t) (second_stands rest second behind (sym there)) ∙ sym (append_assoc front (32 ∷ second) behind)

words_long : (front second : List ℕ) → length (front ++ 32 ∷ second) ≡ length front + 1 + length second
words_long front second = let long = length-append front (32 ∷ second) in omega (arith, long)

pub words_fit : (bytes front rest second behind : List ℕ) → front ≡ run_of is_type_byte bytes → rest ≡ behind_run is_type_byte bytes
    → Some (second, behind) ≡ second_at rest → length front + 1 + length second ≤ length bytes
words_fit bytes front rest second behind front_is rest_is there =
    let whole = words_whole bytes front rest second behind front_is rest_is there in
    let long = ap length whole ∙ length-append (front ++ 32 ∷ second) behind in
    let words = words_long front second in
    omega (arith, long, words)

pub words_in_front : (bytes front rest second behind : List ℕ) → front ≡ run_of is_type_byte bytes → rest ≡ behind_run is_type_byte bytes
    → Some (second, behind) ≡ second_at rest → take (length front + 1 + length second) bytes ≡ front ++ 32 ∷ second
words_in_front bytes front rest second behind front_is rest_is there =
    ap (take (length front + 1 + length second)) (words_whole bytes front rest second behind front_is rest_is there)
    ∙ take_at (front ++ 32 ∷ second) behind (length front + 1 + length second) (words_long front second)

second_ascii : (rest second behind : List ℕ) → second_at rest ≡ Some (second, behind) → list_all is_ascii second ≡ true
unfolding second_at
second_ascii [] second behind is = absurd cc
second_ascii (c ∷ cs) second behind is = by_blank (c == 32) is
  where
    by_word : (b : Bool) → is_second_word (run_of goes_on_identifier cs) ≡ b → (if b then Some (run goes_on_identifier cs) else None) ≡ Some (second, behind) → list_all is_ascii second ≡ true
    by_word true word e =
        let same : run goes_on_identifier cs ≡ (second, behind) = cc in
        ap (λ x. list_all is_ascii x.0) (sym same) ∙ second_is_ascii (run_of goes_on_identifier cs) word
    by_word false word e = absurd cc

    by_blank : (b : Bool) → (if b then second_in (run goes_on_identifier cs) else None) ≡ Some (second, behind) → list_all is_ascii second ≡ true
    by_blank true e = by_word (is_second_word (run_of goes_on_identifier cs)) refl e
    by_blank false e = absurd cc

pub words_are_ascii : (rest front second behind : List ℕ) → list_all is_ascii front ≡ true → Some (second, behind) ≡ second_at rest → IsTrue (list_all is_ascii (front ++ 32 ∷ second))
words_are_ascii rest front second behind ascii there = ascii_behind front (32 ∷ second) ascii (second_ascii rest second behind (sym there))

-- ---- functions behind `get:` or `set:`

-- a front and the run behind it are the front of the text
pub run_in_front : (test : ℕ → Bool) (k n : ℕ) (bytes back r : List ℕ) → n ≡ k + length r → back ≡ drop k bytes → r ≡ run_of test back → take n bytes ≡ take k bytes ++ r
run_in_front test k n bytes back r long back_is run_is =
    let split : drop k bytes ≡ r ++ behind_run test back = sym back_is ∙ front_rest test back ∙ ap (λ t. t ++ behind_run test back) (sym run_is) in
    ap (λ m. take m bytes) long ∙ take-add k (length r) bytes ∙ ap (λ t. take k bytes ++ t) (ap (take (length r)) split ∙ take_at r (behind_run test back) (length r) refl)

pub run_fits : (test : ℕ → Bool) (k : ℕ) (bytes back r : List ℕ) → k ≤ length bytes → back ≡ drop k bytes → r ≡ run_of test back → k + length r ≤ length bytes
run_fits test k bytes back r fits back_is run_is =
    let split : drop k bytes ≡ r ++ behind_run test back = sym back_is ∙ front_rest test back ∙ ap (λ t. t ++ behind_run test back) (sym run_is) in
    let behind = sym (length-drop k bytes) ∙ ap length split ∙ length-append r (behind_run test back) in
    omega (arith, behind)

pub accessor_run : (bytes back r rest name : List ℕ) → is_accessor bytes ≡ true → back ≡ drop 4 bytes → r ≡ run_of goes_on_identifier back → rest ≡ behind_run goes_on_identifier back
    → name ≡ take 4 bytes ++ r → (name, rest) ≡ function_run bytes
accessor_run bytes back r rest name accessor back_is run_is rest_is name_is =
    let run_at : r ≡ run_of goes_on_identifier (drop 4 bytes) = run_is ∙ ap (run_of goes_on_identifier) back_is in
    let rest_at : rest ≡ behind_run goes_on_identifier (drop 4 bytes) = rest_is ∙ ap (behind_run goes_on_identifier) back_is in
    rw (accessor, name_is, run_at, rest_at) refl

pub accessor_is_ascii : (front : List ℕ) → is_accessor_front front ≡ true → list_all is_ascii front ≡ true
accessor_is_ascii front is = by_get (bytes_eq front (codes "get:")) refl is
  where
    by_set : bytes_eq front (codes "set:") ≡ true → list_all is_ascii front ≡ true
    by_set same = ap (list_all is_ascii) ((bytes_eq-Decides front (codes "set:")).0 same)

    by_get : (b : Bool) → bytes_eq front (codes "get:") ≡ b → (b || bytes_eq front (codes "set:")) ≡ true → list_all is_ascii front ≡ true
    by_get true same e = ap (list_all is_ascii) ((bytes_eq-Decides front (codes "get:")).0 same)
    by_get false other e = by_set e
