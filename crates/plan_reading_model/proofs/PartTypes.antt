-- Types and declared names, both ways.
use Rattle.std.proofs.Common.{◌≡◌, ℕ, Bool, true, false, not, ◌&&◌, ◌||◌, ◌==◌, List, [], ◌∷◌, ◌++◌, Some, codes}
use Rattle.std.proofs.Common.{◌⊎◌, inl, inr, refl, sym, ap, subst, ◌∙◌, append_assoc, arith}
use Rattle.std.specs.List.{list_all}
use Rattle.std.specs.Str.{bytes_eq}
use Rattle.std.proofs.lemmas.Bool.{and_parts, and_from, or_cases, or_parts, not-true, not_from_false, eqb-true, both_ways}
use Rattle.uno_model.proofs.Options.{same_some}
use Rattle.uno_model.specs.Names.{goes_on_identifier, is_identifier}
use Rattle.literal_model.specs.Shapes.{run_of, behind_run}
use Rattle.literal_model.proofs.ScanLaws.{front_rest}
use Rattle.plan_model.specs.Forms.{is_path, is_plain_type, is_type_text, is_behind_bracket, is_declared}
use Rattle.plan_model.specs.Lines.{Declared}
use Rattle.plan_reading_model.specs.Parts.{on_some, behind, run, identifier_at, is_path_byte, is_type_byte, behind_brackets, is_second_word, with_second, two_words, type_words, type_at, typed_name, behind_blank, declared_at}
use Rattle.plan_reading_model.proofs.PartRuns.{given, allowed, same_word, behind_said, behind_back, blank_said, blank_back, stops, run_said, all_pass, stops_less}
use Rattle.plan_reading_model.proofs.PartNames.{identifier_said, identifier_back, path_bytes}

-- behind a type there is no byte of one, nor a second word of an unsigned one
abbrev pub ends_type : List ℕ → Bool
ends_type [] = true
ends_type (c ∷ cs) = not (is_type_byte c) && not ((c == 32) && is_second_word (run_of goes_on_identifier cs))

-- ---- how a type is spelled

-- two words with a blank between them, the first of which is unsigned
pub record TwoWords (k : List ℕ) : Type 0 where
  pub front : List ℕ
  pub second : List ℕ
  pub split : k ≡ front ++ 32 ∷ second
  pub bytes : list_all is_type_byte front ≡ true
  pub unsigned : behind_brackets front ≡ codes "unsigned"
  pub is_second : is_second_word second ≡ true

-- bytes of one word, or two words
abbrev pub Shape : List ℕ → Type 0
Shape k = (list_all is_type_byte k ≡ true) ⊎ TwoWords k

in_brackets : (k : List ℕ) → Shape k → Shape (91 ∷ (93 ∷ k))
unfolding behind_brackets behind_run
in_brackets k (inl all) = inl all
in_brackets k (inr two) = inr (
    record {
      front = 91 ∷ (93 ∷ two.front);
      second = two.second;
      split = ap (λ t. 91 ∷ (93 ∷ t)) two.split;
      bytes = two.bytes;
      unsigned = two.unsigned;
      is_second = two.is_second;
    })

path_or_type : (c : ℕ) → is_path_byte c ≡ true → is_type_byte c ≡ true
path_or_type c is = grind arith

unsigned_shape : (k second : List ℕ) → bytes_eq k (codes "unsigned" ++ 32 ∷ second) ≡ true → is_second_word second ≡ true → Shape k
unfolding behind_brackets behind_run
unsigned_shape k second same is = inr (
    record {
      front = codes "unsigned";
      second = second;
      split = same_word k (codes "unsigned" ++ 32 ∷ second) same;
      bytes = refl;
      unsigned = refl;
      is_second = is;
    })

plain_shape : (k : List ℕ) → is_plain_type k ≡ true → Shape k
plain_shape k is = by_path (or_cases (is_path k) _ is)
  where
    by_long : (bytes_eq k (codes "unsigned long") ≡ true) ⊎ (bytes_eq k (codes "unsigned hyper") ≡ true) → Shape k
    by_long (inl same) = unsigned_shape k (codes "long") same refl
    by_long (inr same) = unsigned_shape k (codes "hyper") same refl

    by_short : (bytes_eq k (codes "unsigned short") ≡ true) ⊎ ((bytes_eq k (codes "unsigned long") || bytes_eq k (codes "unsigned hyper")) ≡ true) → Shape k
    by_short (inl same) = unsigned_shape k (codes "short") same refl
    by_short (inr others) = by_long (or_cases (bytes_eq k (codes "unsigned long")) (bytes_eq k (codes "unsigned hyper")) others)

    by_path : (is_path k ≡ true) ⊎ ((bytes_eq k (codes "unsigned short") || (bytes_eq k (codes "unsigned long") || bytes_eq k (codes "unsigned hyper"))) ≡ true) → Shape k
    by_path (inl path) = inl (all_pass is_path_byte is_type_byte path_or_type k (path_bytes k path))
    by_path (inr others) = by_short (or_cases (bytes_eq k (codes "unsigned short")) _ others)

pub type_shape : (k : List ℕ) → is_type_text k ≡ true → Shape k
unfolding is_type_text is_behind_bracket
type_shape [] is = absurd (both_ways false refl is)
type_shape (c ∷ []) is = by_front (c == 91) refl
  where
    by_front : (b : Bool) → (c == 91) ≡ b → Shape (c ∷ [])
    by_front true front = absurd (both_ways false refl (rw front at is))
    by_front false other = plain_shape (c ∷ []) (rw other at is)
type_shape (c ∷ d ∷ ds) is = by_front (c == 91) refl (type_shape ds)
  where
    by_behind : (b : Bool) → (c == 91) ≡ true → (d == 93) ≡ b → (is_type_text ds ≡ true → Shape ds) → Shape (c ∷ d ∷ ds)
    by_behind true front behind inner =
        let e : c ∷ (d ∷ ds) ≡ 91 ∷ (93 ∷ ds) = ap (λ x. x ∷ (d ∷ ds)) (eqb-true c 91 front) ∙ ap (λ x. 91 ∷ (x ∷ ds)) (eqb-true d 93 behind) in
        subst Shape (sym e) (in_brackets ds (inner (rw (front, behind) at is)))
    by_behind false front other inner = absurd (both_ways false refl (rw (front, other) at is))

    by_front : (b : Bool) → (c == 91) ≡ b → (is_type_text ds ≡ true → Shape ds) → Shape (c ∷ d ∷ ds)
    by_front true front inner = by_behind (d == 93) front refl inner
    by_front false other inner = plain_shape (c ∷ d ∷ ds) (rw other at is)

-- ---- what is spelled is read

type_ends : (rest : List ℕ) → ends_type rest ≡ true → stops is_type_byte rest ≡ true
type_ends [] ends = refl
type_ends (c ∷ cs) ends = (and_parts (not (is_type_byte c)) _ ends).0

letter_or_type : (c : ℕ) → not (is_type_byte c) ≡ true → not (goes_on_identifier c) ≡ true
letter_or_type c is = not_from_false (goes_on_identifier c) (or_parts (goes_on_identifier c) ((c == 46) || ((c == 91) || (c == 93))) (not-true (is_type_byte c) is)).0

-- no second word is taken where none stands
one_word : (k rest : List ℕ) → ends_type rest ≡ true → two_words (k, rest) ≡ (k, rest)
one_word k [] ends = refl
one_word k (c ∷ cs) ends = by_blank (c == 32) refl
  where
    by_blank : (b : Bool) → (c == 32) ≡ b → two_words (k, c ∷ cs) ≡ (k, c ∷ cs)
    by_blank false other = rw other refl
    by_blank true blank =
        let none : not ((c == 32) && is_second_word (run_of goes_on_identifier cs)) ≡ true = (and_parts (not (is_type_byte c)) _ ends).1 in
        let same : not (is_second_word (run_of goes_on_identifier cs)) ≡ true = rw blank at none in
        rw (blank, not-true (is_second_word (run_of goes_on_identifier cs)) same) refl

words_of_one : (k rest : List ℕ) → ends_type rest ≡ true → type_words (k, rest) ≡ (k, rest)
words_of_one k rest ends = by_word (bytes_eq (behind_brackets k) (codes "unsigned")) refl
  where
    by_word : (b : Bool) → bytes_eq (behind_brackets k) (codes "unsigned") ≡ b → type_words (k, rest) ≡ (k, rest)
    by_word true is = rw is (one_word k rest ends)
    by_word false is = rw is refl

-- what holds of each second word holds of one
pub each_second : (P : List ℕ → Type 0) (w : List ℕ) → is_second_word w ≡ true → P (codes "short") → P (codes "long") → P (codes "hyper") → P w
each_second P w is short long hyper = by_short (or_cases (bytes_eq w (codes "short")) _ is)
  where
    by_long : (bytes_eq w (codes "long") ≡ true) ⊎ (bytes_eq w (codes "hyper") ≡ true) → P w
    by_long (inl same) = subst P (sym (same_word w (codes "long") same)) long
    by_long (inr same) = subst P (sym (same_word w (codes "hyper") same)) hyper

    by_short : (bytes_eq w (codes "short") ≡ true) ⊎ ((bytes_eq w (codes "long") || bytes_eq w (codes "hyper")) ≡ true) → P w
    by_short (inl same) = subst P (sym (same_word w (codes "short") same)) short
    by_short (inr others) = by_long (or_cases (bytes_eq w (codes "long")) (bytes_eq w (codes "hyper")) others)

pub second_bytes : (w : List ℕ) → is_second_word w ≡ true → list_all goes_on_identifier w ≡ true
second_bytes w is = each_second (λ v. list_all goes_on_identifier v ≡ true) w is refl refl refl

words_of_two : (front second rest : List ℕ) → behind_brackets front ≡ codes "unsigned" → is_second_word second ≡ true → ends_type rest ≡ true
    → type_words (front, 32 ∷ (second ++ rest)) ≡ (front ++ 32 ∷ second, rest)
words_of_two front second rest unsigned is ends =
    let e = run_said goes_on_identifier second rest (second_bytes second is) (stops_less goes_on_identifier is_type_byte rest letter_or_type (type_ends rest ends)) in
    rw (unsigned, e.0, e.1, is) refl

type_of_words : (bytes : List ℕ) (x : List ℕ × List ℕ) → is_type_text x.0 ≡ true → type_words (run is_type_byte bytes) ≡ x → type_at bytes ≡ Some x
unfolding type_at
type_of_words bytes x is e = rw (e, is) refl

two_said : (k rest : List ℕ) → TwoWords k → is_type_text k ≡ true → ends_type rest ≡ true → type_at (k ++ rest) ≡ Some (k, rest)
two_said k rest two is ends =
    let whole : k ++ rest ≡ two.front ++ 32 ∷ (two.second ++ rest) = ap (λ t. t ++ rest) two.split ∙ append_assoc two.front (32 ∷ two.second) rest in
    let e = run_said is_type_byte two.front (32 ∷ (two.second ++ rest)) two.bytes refl in
    let words_it : type_words (run is_type_byte (two.front ++ 32 ∷ (two.second ++ rest))) ≡ (two.front ++ 32 ∷ two.second, rest) =
    ap type_words (pair_is e.0 e.1) ∙ words_of_two two.front two.second rest two.unsigned two.is_second ends in
    ap type_at whole ∙ type_of_words (two.front ++ 32 ∷ (two.second ++ rest)) (k, rest) is (words_it ∙ ap (λ t. (t, rest)) (sym two.split))
  where
    pair_is : {a b c d : List ℕ} → a ≡ b → c ≡ d → ◌≡◌ {A = List ℕ × List ℕ} (a, c) (b, d)
    pair_is e f = rw (e, f) refl

pub type_said : (k rest : List ℕ) → is_type_text k ≡ true → ends_type rest ≡ true → type_at (k ++ rest) ≡ Some (k, rest)
type_said k rest is ends = by_shape (type_shape k is)
  where
    by_shape : Shape k → type_at (k ++ rest) ≡ Some (k, rest)
    by_shape (inl all) =
        let e = run_said is_type_byte k rest all (type_ends rest ends) in
        type_of_words (k ++ rest) (k, rest) is (rw (e.0, e.1) (words_of_one k rest ends))
    by_shape (inr two) = two_said k rest two is ends

-- ---- what is read is spelled

abbrev Spells : List ℕ → List ℕ × List ℕ → Type 0
Spells bytes x = bytes ≡ x.0 ++ x.1

second_spelled : (bytes front cs : List ℕ) → bytes ≡ front ++ 32 ∷ cs → Spells bytes (with_second (front, 32 ∷ cs) (run goes_on_identifier cs))
second_spelled bytes front cs split = by_second (is_second_word (run_of goes_on_identifier cs)) refl
  where
    by_second : (b : Bool) → is_second_word (run_of goes_on_identifier cs) ≡ b → Spells bytes (with_second (front, 32 ∷ cs) (run goes_on_identifier cs))
    by_second true is = rw is (split ∙ ap (λ t. front ++ 32 ∷ t) (front_rest goes_on_identifier cs)
        ∙ sym (append_assoc front (32 ∷ run_of goes_on_identifier cs) (behind_run goes_on_identifier cs)))
    by_second false other = rw other split

two_spelled : (bytes front rest : List ℕ) → bytes ≡ front ++ rest → Spells bytes (two_words (front, rest))
two_spelled bytes front [] split = split
two_spelled bytes front (c ∷ cs) split = by_blank (c == 32) refl
  where
    by_blank : (b : Bool) → (c == 32) ≡ b → Spells bytes (two_words (front, c ∷ cs))
    by_blank false other = rw other split
    by_blank true blank =
        let same : c ≡ 32 = eqb-true c 32 blank in
        subst (λ d. Spells bytes (two_words (front, d ∷ cs))) (sym same) (second_spelled bytes front cs (split ∙ ap (λ d. front ++ d ∷ cs) same))

words_spelled : (bytes : List ℕ) → Spells bytes (type_words (run is_type_byte bytes))
words_spelled bytes = by_word (bytes_eq (behind_brackets (run_of is_type_byte bytes)) (codes "unsigned")) refl
  where
    by_word : (b : Bool) → bytes_eq (behind_brackets (run_of is_type_byte bytes)) (codes "unsigned") ≡ b → Spells bytes (type_words (run is_type_byte bytes))
    by_word true is = rw is (two_spelled bytes (run_of is_type_byte bytes) (behind_run is_type_byte bytes) (front_rest is_type_byte bytes))
    by_word false is = rw is (front_rest is_type_byte bytes)

pub type_back : (bytes : List ℕ) (x : List ℕ × List ℕ) → type_at bytes ≡ Some x → (is_type_text x.0 ≡ true) × (bytes ≡ x.0 ++ x.1)
unfolding type_at
type_back bytes x e =
    let is = allowed (is_type_text (type_words (run is_type_byte bytes)).0) (Some (type_words (run is_type_byte bytes))) x e in
    subst (λ (y : List ℕ × List ℕ). (is_type_text y.0 ≡ true) × (bytes ≡ y.0 ++ y.1)) (same_some is.1) (is.0, words_spelled bytes)

-- ---- declared names

pub declared_said : (mark rest : List ℕ) (d : Declared) → is_declared d ≡ true → ends_type (mark ++ rest) ≡ true
    → declared_at mark (d.name ++ 32 ∷ (d.kind ++ (mark ++ rest))) ≡ Some (d, rest)
unfolding declared_at
declared_said mark rest d is ends =
    let parts = and_parts (is_identifier d.name) (is_type_text d.kind) is in
    let name = identifier_said d.name (32 ∷ (d.kind ++ (mark ++ rest))) parts.0 refl in
    let blank = blank_said d.name (d.kind ++ (mark ++ rest)) in
    let kind = type_said d.kind (mark ++ rest) parts.1 ends in
    rw (name, blank, kind, behind_said mark rest) refl

pub declared_back : (mark bytes : List ℕ) (x : Declared × List ℕ) → declared_at mark bytes ≡ Some x
    → (is_declared x.0 ≡ true) × (bytes ≡ x.0.name ++ 32 ∷ (x.0.kind ++ (mark ++ x.1)))
unfolding declared_at
declared_back mark bytes x e =
    let y = given (on_some (identifier_at bytes) behind_blank) (typed_name mark) x e in
    let n = given (identifier_at bytes) behind_blank y.0 y.1 in
    let name = identifier_back bytes n.0 n.1 in
    let blank = blank_back n.0 y.0 n.2 in
    let k = given (type_at y.0.1) _ x y.2 in
    let kind = type_back y.0.1 k.0 k.1 in
    let r = given (behind mark k.0.1) _ x k.2 in
    let rest = behind_back mark k.0.1 r.0 r.1 in
    let split : bytes ≡ y.0.0 ++ 32 ∷ (k.0.0 ++ (mark ++ r.0)) =
    name.1 ∙ ap (λ t. t ++ n.0.1) blank.0 ∙ ap (λ t. y.0.0 ++ t) blank.1 ∙ ap (λ t. y.0.0 ++ 32 ∷ t) (kind.1 ∙ ap (λ t. k.0.0 ++ t) rest) in
    let formed = and_from (is_identifier y.0.0) (is_type_text k.0.0) (subst (λ t. is_identifier t ≡ true) blank.0 name.0) kind.0 in
    let whole : (is_declared (record { name = y.0.0; kind = k.0.0 }) ≡ true) × (bytes ≡ y.0.0 ++ 32 ∷ (k.0.0 ++ (mark ++ r.0))) = (formed, split) in
    subst (λ (z : Declared × List ℕ). (is_declared z.0 ≡ true) × (bytes ≡ z.0.name ++ 32 ∷ (z.0.kind ++ (mark ++ z.1)))) (same_some r.2) whole
