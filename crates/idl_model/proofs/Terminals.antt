-- Words, marks, identifiers and numbers: their readings agree, and what a text begins with that begins with one of them.
use Rattle.std.proofs.Common.{◌≡◌, ℕ, Bool, true, false, not, ◌&&◌, List, [], ◌∷◌, ◌++◌, Option, None, Some, if◌then◌else◌}
use Rattle.std.proofs.Common.{refl, sym, ap, ◌∙◌}
use Rattle.std.specs.Str.{bytes_eq}
use Rattle.std.proofs.lemmas.Slice.Eq.{bytes_eq-Decides}
use Rattle.grammar_model.specs.Readings.{next, one}
use Rattle.grammar_model.specs.Relations.{One}
use Rattle.grammar_model.proofs.Agreeing.{StartsWith, starts_one, IsRule}
use Rattle.grammar_model.proofs.Leaves.{always, all_fit, one_agrees}
use Rattle.idl_model.specs.Grammar.{Tokens, terminal_at, Keyword, Mark, place_of_terminal, KeywordPlace, MarkPlace, of_table, of_marks, identifier_of, id_at}
use Rattle.idl_model.specs.Grammar.{IsId, number_of, IsNumber}
use Rattle.idl_model.specs.GrammarReading.{ReadsTokens, keyword, mark, keyword_place, mark_place, id}
use Rattle.idl_model.specs.ParseVerdicts.{opens}
use Rattle.idl_model.specs.Places.{Place}
use Rattle.idl_model.specs.PlacedTokens.{PlacedToken, is_terminal, next_word}
use Rattle.idl_model.specs.Trees.{Id}
use Rattle.idl_text_model.specs.Tokens.{Word}
use Rattle.idl_text_model.specs.Tokens as token

-- a rule of the grammar
abbrev pub Rule : {X : Type 0} → (X → Option PlacedToken → Bool) → (X → Bool) → ReadsTokens X → (X → Tokens → Type 0) → Type 0
Rule ends fits r P = IsRule opens ends fits r P

-- each text begins with a word that passes a test
abbrev pub Starts : {X : Type 0} → (Option Word → Bool) → (X → Tokens → Type 0) → Type 0
Starts d P = StartsWith (λ o. d (next_word o)) P

pub not_true : (b : Bool) → not b ≡ true → b ≡ false
not_true true e = let bad : ⊥ = cc in absurd bad
not_true false e = refl

-- a test that no text's first word passes
pub never : {X : Type 0} (d : Option Word → Bool) (P : X → Tokens → Type 0) → Starts (λ o. not (d o)) P → (x : X) (used rest : Tokens) → P x used
    → d (next_word (next (used ++ rest))) ≡ false
never d P starts x used rest p = not_true (d (next_word (next (used ++ rest)))) (starts x used rest p)

none_some : {X : Type 0} {x : X} → None ≡ Some x → ⊥
none_some e = cc

-- ---- a word is the one that it is taken for

pub same_quoted : (w : List ℕ) (v : Word) → is_terminal (token.quoted w) v ≡ true → v ≡ token.quoted w
same_quoted w (token.quoted v) is = ap token.quoted (sym ((bytes_eq-Decides w v).0 is))
same_quoted w (token.mark v) is = let bad : ⊥ = cc in absurd bad
same_quoted w (token.identifier v) is = let bad : ⊥ = cc in absurd bad
same_quoted w (token.number n) is = let bad : ⊥ = cc in absurd bad

pub same_mark : (w : List ℕ) (v : Word) → is_terminal (token.mark w) v ≡ true → v ≡ token.mark w
same_mark w (token.mark v) is = ap token.mark (sym ((bytes_eq-Decides w v).0 is))
same_mark w (token.quoted v) is = let bad : ⊥ = cc in absurd bad
same_mark w (token.identifier v) is = let bad : ⊥ = cc in absurd bad
same_mark w (token.number n) is = let bad : ⊥ = cc in absurd bad

-- what a test that was asked gives
taken_if : {X : Type 0} (b : Bool) (x y : X) → ◌≡◌ {A = Option X} (if b then Some x else None) (Some y) → b ≡ true
taken_if true x y e = refl
taken_if false x y e = absurd (none_some e)

module _ (w : List ℕ) (t : PlacedToken) where
  pub word_of_keyword : (x : Unit {0}) → terminal_at (token.quoted w) t ≡ Some x → t.word ≡ token.quoted w
  word_of_keyword x e = same_quoted w t.word (taken_if (is_terminal (token.quoted w) t.word) tt x e)

  pub word_of_mark : (x : Unit {0}) → terminal_at (token.mark w) t ≡ Some x → t.word ≡ token.mark w
  word_of_mark x e = same_mark w t.word (taken_if (is_terminal (token.mark w) t.word) tt x e)

  pub word_of_keyword_place : (x : Place) → place_of_terminal (token.quoted w) t ≡ Some x → t.word ≡ token.quoted w
  word_of_keyword_place x e = same_quoted w t.word (taken_if (is_terminal (token.quoted w) t.word) t.place x e)

  pub word_of_mark_place : (x : Place) → place_of_terminal (token.mark w) t ≡ Some x → t.word ≡ token.mark w
  word_of_mark_place x e = same_mark w t.word (taken_if (is_terminal (token.mark w) t.word) t.place x e)

module _ (d : Option Word → Bool) where
  pub starts_keyword : (w : List ℕ) → d (Some (token.quoted w)) ≡ true → Starts d (Keyword w)
  starts_keyword w is = starts_one (λ o. d (next_word o)) (terminal_at (token.quoted w)) (λ t x e. ap (λ k. d (Some k)) (word_of_keyword w t x e) ∙ is)

  pub starts_mark : (w : List ℕ) → d (Some (token.mark w)) ≡ true → Starts d (Mark w)
  starts_mark w is = starts_one (λ o. d (next_word o)) (terminal_at (token.mark w)) (λ t x e. ap (λ k. d (Some k)) (word_of_mark w t x e) ∙ is)

  pub starts_keyword_place : (w : List ℕ) → d (Some (token.quoted w)) ≡ true → Starts d (KeywordPlace w)
  starts_keyword_place w is = starts_one (λ o. d (next_word o)) (place_of_terminal (token.quoted w))
      (λ t x e. ap (λ k. d (Some k)) (word_of_keyword_place w t x e) ∙ is)

  pub starts_mark_place : (w : List ℕ) → d (Some (token.mark w)) ≡ true → Starts d (MarkPlace w)
  starts_mark_place w is = starts_one (λ o. d (next_word o)) (place_of_terminal (token.mark w))
      (λ t x e. ap (λ k. d (Some k)) (word_of_mark_place w t x e) ∙ is)

-- ---- tables

-- each word of a table passes a test
abbrev pub words_pass : {X : Type 0} → (Option Word → Bool) → List (List ℕ × X) → Bool
words_pass d [] = true
words_pass d (row ∷ rows) = d (Some (token.quoted row.0)) && words_pass d rows

abbrev pub marks_pass : {X : Type 0} → (Option Word → Bool) → List (List ℕ × X) → Bool
marks_pass d [] = true
marks_pass d (row ∷ rows) = d (Some (token.mark row.0)) && marks_pass d rows

both : (a b : Bool) → (a && b) ≡ true → (a ≡ true) × (b ≡ true)
both true b e = (refl, e)
both false b e = let bad : ⊥ = cc in absurd bad

module _ {X : Type 0} (d : Option Word → Bool) where
  pub word_in_table : (rows : List (List ℕ × X)) (w : Word) (x : X) → words_pass d rows ≡ true → of_table rows w ≡ Some x → d (Some w) ≡ true
  word_in_table [] w x pass e = absurd (none_some e)
  word_in_table (row ∷ rows) w x pass e =
      let parts = both (d (Some (token.quoted row.0))) (words_pass d rows) pass in
      by_test parts.0 (λ k. word_in_table rows w x parts.1 k) (is_terminal (token.quoted row.0) w) refl e
    where
      by_test : d (Some (token.quoted row.0)) ≡ true → (of_table rows w ≡ Some x → d (Some w) ≡ true) → (b : Bool) → is_terminal (token.quoted row.0) w ≡ b
          → ◌≡◌ {A = Option X} (if b then Some row.1 else of_table rows w) (Some x) → d (Some w) ≡ true
      by_test here later true is k = ap (λ v. d (Some v)) (same_quoted row.0 w is) ∙ here
      by_test here later false is k = later k

  pub word_in_marks : (rows : List (List ℕ × X)) (w : Word) (x : X) → marks_pass d rows ≡ true → of_marks rows w ≡ Some x → d (Some w) ≡ true
  word_in_marks [] w x pass e = absurd (none_some e)
  word_in_marks (row ∷ rows) w x pass e =
      let parts = both (d (Some (token.mark row.0))) (marks_pass d rows) pass in
      by_test parts.0 (λ k. word_in_marks rows w x parts.1 k) (is_terminal (token.mark row.0) w) refl e
    where
      by_test : d (Some (token.mark row.0)) ≡ true → (of_marks rows w ≡ Some x → d (Some w) ≡ true) → (b : Bool) → is_terminal (token.mark row.0) w ≡ b
          → ◌≡◌ {A = Option X} (if b then Some row.1 else of_marks rows w) (Some x) → d (Some w) ≡ true
      by_test here later true is k = ap (λ v. d (Some v)) (same_mark row.0 w is) ∙ here
      by_test here later false is k = later k

  pub starts_table : (rows : List (List ℕ × X)) → words_pass d rows ≡ true → Starts d (One (λ (t : PlacedToken). of_table rows t.word))
  starts_table rows pass = starts_one (λ o. d (next_word o)) (λ t. of_table rows t.word) (λ t x e. word_in_table rows t.word x pass e)

  pub starts_marks : (rows : List (List ℕ × X)) → marks_pass d rows ≡ true → Starts d (One (λ (t : PlacedToken). of_marks rows t.word))
  starts_marks rows pass = starts_one (λ o. d (next_word o)) (λ t. of_marks rows t.word) (λ t x e. word_in_marks rows t.word x pass e)

-- ---- identifiers and numbers

pub identifier_is : (place : Place) (w : Word) (i : Id) → identifier_of place w ≡ Some i → (name : List ℕ) × (w ≡ token.identifier name)
identifier_is place (token.identifier name) i e = (name, refl)
identifier_is place (token.quoted v) i e = absurd (none_some e)
identifier_is place (token.mark v) i e = absurd (none_some e)
identifier_is place (token.number n) i e = absurd (none_some e)

number_is : (w : Word) (n : ℕ) → number_of w ≡ Some n → w ≡ token.number n
number_is (token.number m) n e = let same : m ≡ n = cc in ap token.number same
number_is (token.identifier v) n e = absurd (none_some e)
number_is (token.quoted v) n e = absurd (none_some e)
number_is (token.mark v) n e = absurd (none_some e)

module _ (d : Option Word → Bool) where
  pub starts_id : ((name : List ℕ) → d (Some (token.identifier name)) ≡ true) → Starts d IsId
  starts_id all = starts_one (λ o. d (next_word o)) id_at (λ t i e. let is = identifier_is t.place t.word i e in ap (λ k. d (Some k)) is.1 ∙ all is.0)

  pub starts_number : ((n : ℕ) → d (Some (token.number n)) ≡ true) → Starts d IsNumber
  starts_number all = starts_one (λ o. d (next_word o)) (λ t. number_of t.word) (λ t n e. ap (λ k. d (Some k)) (number_is t.word n e) ∙ all n)

-- ---- their rules

-- some token with a word
abbrev pub some_token : Word → PlacedToken
some_token w = record { word = w; place = record { file = 0; byte = 0 }; length = 0 }

pub token_rule : {X : Type 0} (f : PlacedToken → Option X) (w : Word) (x : X) → f (some_token w) ≡ Some x → IsRule opens always all_fit (one f) (One f)
token_rule f w x is = record { agrees = one_agrees f opens (some_token w) x is; room = (x, some_token w ∷ [], (some_token w, refl, is), refl) }

same_bytes : (w : List ℕ) → bytes_eq w w ≡ true
same_bytes w = (bytes_eq-Decides w w).1 refl

pub keyword_rule : (w : List ℕ) → IsRule opens always all_fit (keyword w) (Keyword w)
keyword_rule w = token_rule (terminal_at (token.quoted w)) (token.quoted w) tt (ap (λ b. if b then Some tt else None) (same_bytes w))

pub mark_rule : (w : List ℕ) → IsRule opens always all_fit (mark w) (Mark w)
mark_rule w = token_rule (terminal_at (token.mark w)) (token.mark w) tt (ap (λ b. if b then Some tt else None) (same_bytes w))

pub keyword_place_rule : (w : List ℕ) → IsRule opens always all_fit (keyword_place w) (KeywordPlace w)
keyword_place_rule w =
    token_rule (place_of_terminal (token.quoted w)) (token.quoted w) (record { file = 0; byte = 0 })
    (ap (λ b. if b then Some (record { file = 0; byte = 0 }) else None) (same_bytes w))

pub mark_place_rule : (w : List ℕ) → IsRule opens always all_fit (mark_place w) (MarkPlace w)
mark_place_rule w =
    token_rule (place_of_terminal (token.mark w)) (token.mark w) (record { file = 0; byte = 0 })
    (ap (λ b. if b then Some (record { file = 0; byte = 0 }) else None) (same_bytes w))

pub id_rule : IsRule opens always all_fit id IsId
id_rule = token_rule id_at (token.identifier []) (record { name = []; place = record { file = 0; byte = 0 } }) refl
