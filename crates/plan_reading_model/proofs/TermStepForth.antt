-- Each form of a term that is spelled is read, where the terms in it are.
use Rattle.std.proofs.Common.{◌≡◌, ℕ, zero, suc, ◌<◌, Bool, true, false, not, ◌||◌, ◌==◌, List, [], ◌∷◌, ◌++◌, length, length-append, None, Some}
use Rattle.std.proofs.Common.{◌⊎◌, inl, inr, refl, sym, ap, subst, ◌∙◌, append_assoc, codes, arith}
use Rattle.std.proofs.lemmas.Bool.{and_parts, or_cases, or_parts, ne_eqb, eqb-false, not-true, eq-eqb, eqb-true, both_ways}
use Rattle.std.specs.Str.{bytes_eq}
use Rattle.uno_model.proofs.Options.{none_some}
use Rattle.uno_model.specs.Entities.{Entity}
use Rattle.uno_model.specs.Names.{parts_of}
use Rattle.literal_model.specs.Literals.{Token, spell, number, string}
use Rattle.literal_model.specs.Literals as token
use Rattle.literal_model.specs.Shapes.{is_word, is_known_word}
use Rattle.plan_model.specs.Expressions.{Word, variable, own}
use Rattle.plan_model.specs.Expressions as expression
use Rattle.plan_model.specs.Forms.{is_type_text, is_behind_bracket, is_word_formed, is_leaf, is_cast, has_members}
use Rattle.plan_model.specs.Lines.{Term, Terms, leaf, type_named, void_any, typed, elements, members, word, operation, none, more}
use Rattle.plan_model.specs.PlanText.{word_text, operation_text, term_text, terms_text, behind_comma}
use Rattle.plan_model.specs.declared.operation.Operation.{Operation}
use Rattle.plan_model.specs.declared.operation.Operation.TheVariants.{Add, Sub}
use Rattle.plan_reading_model.specs.Parts.{on_some, behind, word_at}
use Rattle.plan_reading_model.specs.TermReading.{Reads, cast_value, terms_on, as_elements, as_members}
use Rattle.plan_reading_model.specs.TermReading.{elements_at, members_at, operands_at, term_step}
use Rattle.plan_reading_model.proofs.PartRuns.{behind_said, stops}
use Rattle.plan_reading_model.proofs.PartTypes.{type_said}
use Rattle.plan_reading_model.proofs.PartWords.{word_said}
use Rattle.plan_reading_model.proofs.TermLeaves.{is_term_byte, term_ends, number_said, letters_step, letters_said, known_said, text_said}

-- ---- types and words of the plan

pub type_named_said : (reg : List Entity) (read : Reads Term) (k rest : List ℕ) → is_type_text k ≡ true
    → term_step reg read (term_text (type_named k) ++ rest) ≡ Some (type_named k, rest)
unfolding term_step term_text
type_named_said reg read k rest is =
    let split : term_text (type_named k) ++ rest ≡ 60 ∷ (k ++ 62 ∷ rest) = ap (λ t. 60 ∷ t) (append_assoc k (62 ∷ []) rest) in
    let kind = type_said k (62 ∷ rest) is refl in
    let close : behind (codes ">") (62 ∷ rest) ≡ Some rest = behind_said (codes ">") rest in
    let at : term_step reg read (60 ∷ (k ++ 62 ∷ rest)) ≡ Some (type_named k, rest) = rw (kind, close) refl in
    ap (term_step reg read) split ∙ at

-- a type in parentheses
cast_said : (reg : List Entity) (read : Reads Term) (k rest : List ℕ) → is_type_text k ≡ true
    → term_step reg read (40 ∷ (k ++ 41 ∷ rest)) ≡ cast_value read k rest
unfolding term_step
cast_said reg read k rest is =
    let close : behind (codes ")") (41 ∷ rest) ≡ Some rest = behind_said (codes ")") rest in
    rw (type_said k (41 ∷ rest) is refl, close) refl

pub void_said : (reg : List Entity) (read : Reads Term) (rest : List ℕ) → term_step reg read (term_text void_any ++ rest) ≡ Some (void_any, rest)
unfolding term_text is_type_text is_behind_bracket parts_of
void_said reg read rest = cast_said reg read (codes "void") rest refl

pub typed_said : (reg : List Entity) (read : Reads Term) (k : List ℕ) (t : Term) (rest : List ℕ) → is_cast k ≡ true
    → read (term_text t ++ rest) ≡ Some (t, rest) → term_step reg read (term_text (typed k t) ++ rest) ≡ Some (typed k t, rest)
unfolding term_text
typed_said reg read k t rest is value =
    let parts = and_parts (is_type_text k) (not (bytes_eq k (codes "any") || bytes_eq k (codes "void"))) is in
    let other = or_parts (bytes_eq k (codes "any")) (bytes_eq k (codes "void")) (not-true _ parts.1) in
    let split : term_text (typed k t) ++ rest ≡ 40 ∷ (k ++ 41 ∷ (term_text t ++ rest)) = ap (λ b. 40 ∷ b) (append_assoc k (41 ∷ term_text t) rest) in
    let cast : cast_value read k (term_text t ++ rest) ≡ Some (typed k t, rest) = rw (other.0, other.1, value) refl in
    ap (term_step reg read) split ∙ cast_said reg read k (term_text t ++ rest) parts.0 ∙ cast

dollar_step : (reg : List Entity) (read : Reads Term) (w : Word) (rest bytes : List ℕ) → word_at (36 ∷ bytes) ≡ Some (w, rest)
    → term_step reg read (36 ∷ bytes) ≡ Some (word w, rest)
unfolding term_step
dollar_step reg read w rest bytes e = rw e refl

pub plan_word_said : (reg : List Entity) (read : Reads Term) (w : Word) (rest : List ℕ) → is_word_formed w ≡ true → stops is_term_byte rest ≡ true
    → term_step reg read (word_text w ++ rest) ≡ Some (word w, rest)
plan_word_said reg read (variable name) rest is ends = dollar_step reg read (variable name) rest (name ++ rest) (word_said (variable name) rest is (term_ends rest ends))
plan_word_said reg read (expression.field name) rest is ends =
    dollar_step reg read (expression.field name) rest (46 ∷ (name ++ rest)) (word_said (expression.field name) rest is (term_ends rest ends))
plan_word_said reg read own rest is ends = dollar_step reg read own rest (codes "self" ++ rest) (word_said own rest is (term_ends rest ends))

-- ---- operations

operands_said : (read : Reads Term) (op : Operation) (s t : Term) (a b rest : List ℕ)
    → read (a ++ 44 ∷ (b ++ 41 ∷ rest)) ≡ Some (s, 44 ∷ (b ++ 41 ∷ rest)) → read (b ++ 41 ∷ rest) ≡ Some (t, 41 ∷ rest)
    → operands_at read op (a ++ 44 ∷ (b ++ 41 ∷ rest)) ≡ Some (operation op s t, rest)
unfolding operands_at
operands_said read op s t a b rest first second =
    let mark : behind (codes ",") (44 ∷ (b ++ 41 ∷ rest)) ≡ Some (b ++ 41 ∷ rest) = behind_said (codes ",") (b ++ 41 ∷ rest) in
    let close : behind (codes ")") (41 ∷ rest) ≡ Some rest = behind_said (codes ")") rest in
    rw (first, mark, second, close) refl

operation_word : (reg : List Entity) (read : Reads Term) (op : Operation) (rest : List ℕ)
    → term_step reg read (operation_text op ++ 40 ∷ rest) ≡ operands_at read op rest
operation_word reg read Add rest = letters_step reg read 97 (codes "dd" ++ 40 ∷ rest) refl ∙ letters_said reg read (codes "add") (40 ∷ rest) refl refl
operation_word reg read Sub rest = letters_step reg read 115 (codes "ub" ++ 40 ∷ rest) refl ∙ letters_said reg read (codes "sub") (40 ∷ rest) refl refl

pub operation_said : (reg : List Entity) (read : Reads Term) (op : Operation) (s t : Term) (rest : List ℕ)
    → ((r : List ℕ) → stops is_term_byte r ≡ true → read (term_text s ++ r) ≡ Some (s, r))
    → ((r : List ℕ) → stops is_term_byte r ≡ true → read (term_text t ++ r) ≡ Some (t, r))
    → term_step reg read (term_text (operation op s t) ++ rest) ≡ Some (operation op s t, rest)
unfolding term_text
operation_said reg read op s t rest first second =
    let a = term_text s in
    let b = term_text t in
    let inner : (a ++ 44 ∷ (b ++ 41 ∷ [])) ++ rest ≡ a ++ 44 ∷ (b ++ 41 ∷ rest) =
    append_assoc a (44 ∷ (b ++ 41 ∷ [])) rest ∙ ap (λ x. a ++ 44 ∷ x) (append_assoc b (41 ∷ []) rest) in
    let split : term_text (operation op s t) ++ rest ≡ operation_text op ++ 40 ∷ (a ++ 44 ∷ (b ++ 41 ∷ rest)) =
    append_assoc (operation_text op) (40 ∷ (a ++ 44 ∷ (b ++ 41 ∷ []))) rest ∙ ap (λ x. operation_text op ++ 40 ∷ x) inner in
    ap (term_step reg read) split ∙ operation_word reg read op (a ++ 44 ∷ (b ++ 41 ∷ rest))
    ∙ operands_said read op s t a b rest (first (44 ∷ (b ++ 41 ∷ rest)) refl) (second (41 ∷ rest) refl)

-- ---- terms with commas between them

-- wherever the term is spelled, and no more of one stands behind it, it is read
abbrev pub SaidBy : Reads Term → Term → Type 0
SaidBy read t = (rest : List ℕ) → stops is_term_byte rest ≡ true → read (term_text t ++ rest) ≡ Some (t, rest)

unfoldable pub EachSaid : Reads Term → Terms → Type 0
EachSaid read none = Unit
EachSaid read (more t ts) = SaidBy read t × EachSaid read ts

-- what stands behind a term: `)`, `]`, `}`, a comma or a blank
abbrev pub is_mark : ℕ → Bool
is_mark c = (c == 41) || ((c == 93) || ((c == 125) || ((c == 44) || (c == 32))))

of_two : (P : ℕ → Type 0) (c d : ℕ) (b : Bool) → ((c == d) || b) ≡ true → P d → (b ≡ true → P c) → P c
of_two P c d b is here behind = by_test (or_cases (c == d) b is)
  where
    by_test : ((c == d) ≡ true) ⊎ (b ≡ true) → P c
    by_test (inl same) = subst P (sym (eqb-true c d same)) here
    by_test (inr other) = behind other

mark_is : (P : ℕ → Type 0) (c : ℕ) → is_mark c ≡ true → P 41 → P 93 → P 125 → P 44 → P 32 → P c
mark_is P c is round square curly comma blank =
    of_two P c 41 _ is round (λ is. of_two P c 93 _ is square (λ is. of_two P c 125 _ is curly (λ is. of_two P c 44 _ is comma (λ is.
    subst P (sym (eqb-true c 32 is)) blank))))

pub mark_ends : (c : ℕ) (cs : List ℕ) → is_mark c ≡ true → stops is_term_byte (c ∷ cs) ≡ true
mark_ends c cs is = mark_is (λ d. not (is_term_byte d) ≡ true) c is refl refl refl refl refl

-- no term begins with a mark
pub no_term_step : (reg : List Entity) (read : Reads Term) (c : ℕ) (cs : List ℕ) → is_mark c ≡ true → term_step reg read (c ∷ cs) ≡ None
unfolding term_step
no_term_step reg read c cs is = mark_is (λ d. term_step reg read (d ∷ cs) ≡ None) c is refl refl refl refl refl

no_comma : (c : ℕ) → (c == 44) ≡ false → (44 == c) ≡ false
no_comma c is = ne_eqb 44 c (λ e. eqb-false c 44 is (sym e))

pub closing_terms : (read : Reads Term) (close most : ℕ) (t : Term) (ts : Terms) (rest : List ℕ) → EachSaid read (more t ts) → is_mark close ≡ true
    → (close == 44) ≡ false → length (behind_comma ts) < most → terms_on most read close ((term_text t ++ behind_comma ts) ++ close ∷ rest) ≡ Some (more t ts, rest)
unfolding EachSaid terms_on behind_comma
closing_terms read close zero t ts rest said closing apart long = let bad : ⊥ = omega (arith, long) in absurd bad
closing_terms read close (suc most) t none rest said closing apart long =
    let split : (term_text t ++ []) ++ close ∷ rest ≡ term_text t ++ close ∷ rest = append_assoc (term_text t) [] (close ∷ rest) in
    let first = said.0 (close ∷ rest) (mark_ends close rest closing) in
    rw (split, first, eq-eqb close close refl) refl
closing_terms read close (suc most) t (more u us) rest said closing apart long =
    let inner = (term_text u ++ behind_comma us) ++ close ∷ rest in
    let split : (term_text t ++ 44 ∷ (term_text u ++ behind_comma us)) ++ close ∷ rest ≡ term_text t ++ 44 ∷ inner =
    append_assoc (term_text t) (44 ∷ (term_text u ++ behind_comma us)) (close ∷ rest) in
    let first = said.0 (44 ∷ inner) refl in
    let size = length-append (term_text u) (behind_comma us) in
    let others = closing_terms read close most u us rest said.1 closing apart (omega (arith, size, long)) in
    rw (split, first, no_comma close apart, others) refl

-- ---- what is in brackets

elements_on : (read : Reads Term) (bytes : List ℕ) (x : Term × List ℕ) → read bytes ≡ Some x → read [] ≡ None → ((cs : List ℕ) → read (93 ∷ cs) ≡ None)
    → elements_at read bytes ≡ on_some (terms_on (length bytes) read 93 bytes) as_elements
unfolding elements_at
elements_on read [] x e empty closed = absurd (none_some (sym empty ∙ e))
elements_on read (c ∷ cs) x e empty closed = by_close (c == 93) refl
  where
    by_close : (b : Bool) → (c == 93) ≡ b → elements_at read (c ∷ cs) ≡ on_some (terms_on (length (c ∷ cs)) read 93 (c ∷ cs)) as_elements
    by_close false other = rw other refl
    by_close true close = absurd (none_some (sym (closed cs) ∙ subst (λ d. read (d ∷ cs) ≡ Some x) (eqb-true c 93 close) e))

size_of : (a b : List ℕ) (c : ℕ) (rest : List ℕ) → length b < length ((a ++ b) ++ c ∷ rest)
size_of a b c rest =
    let all = length-append (a ++ b) (c ∷ rest) in
    let front = length-append a b in
    omega (arith, all, front)

-- behind a term stands a comma or what closes
comma_ends : (ts : Terms) (close : ℕ) (rest : List ℕ) → is_mark close ≡ true → stops is_term_byte (behind_comma ts ++ close ∷ rest) ≡ true
unfolding behind_comma
comma_ends none close rest is = mark_ends close rest is
comma_ends (more t ts) close rest is = refl

elements_said : (read : Reads Term) (ts : Terms) (rest : List ℕ) → EachSaid read ts → read [] ≡ None → ((cs : List ℕ) → read (93 ∷ cs) ≡ None)
    → elements_at read (terms_text ts ++ 93 ∷ rest) ≡ Some (elements ts, rest)
unfolding elements_at terms_text EachSaid
elements_said read none rest said empty closed = refl
elements_said read (more t ts) rest said empty closed =
    let bytes = (term_text t ++ behind_comma ts) ++ 93 ∷ rest in
    let split : bytes ≡ term_text t ++ (behind_comma ts ++ 93 ∷ rest) = append_assoc (term_text t) (behind_comma ts) (93 ∷ rest) in
    let first = said.0 (behind_comma ts ++ 93 ∷ rest) (comma_ends ts 93 rest refl) in
    let all = closing_terms read 93 (length bytes) t ts rest said refl refl (size_of (term_text t) (behind_comma ts) 93 rest) in
    elements_on read bytes (t, behind_comma ts ++ 93 ∷ rest) (ap read split ∙ first) empty closed ∙ ap (λ o. on_some o as_elements) all

members_said : (read : Reads Term) (ts : Terms) (rest : List ℕ) → has_members ts ≡ true → EachSaid read ts
    → members_at read (terms_text ts ++ 125 ∷ rest) ≡ Some (members ts, rest)
unfolding members_at terms_text EachSaid
members_said read none rest some said = absurd (both_ways false refl some)
members_said read (more t ts) rest some said =
    let bytes = (term_text t ++ behind_comma ts) ++ 125 ∷ rest in
    let all = closing_terms read 125 (length bytes) t ts rest said refl refl (size_of (term_text t) (behind_comma ts) 125 rest) in
    ap (λ o. on_some o as_members) all

pub elements_step : (reg : List Entity) (read : Reads Term) (ts : Terms) (rest : List ℕ) → EachSaid read ts → read [] ≡ None
    → ((cs : List ℕ) → read (93 ∷ cs) ≡ None) → term_step reg read (term_text (elements ts) ++ rest) ≡ Some (elements ts, rest)
unfolding term_step term_text
elements_step reg read ts rest said empty closed =
    ap (λ b. term_step reg read (91 ∷ b)) (append_assoc (terms_text ts) (93 ∷ []) rest) ∙ elements_said read ts rest said empty closed

pub members_step : (reg : List Entity) (read : Reads Term) (ts : Terms) (rest : List ℕ) → has_members ts ≡ true → EachSaid read ts
    → term_step reg read (term_text (members ts) ++ rest) ≡ Some (members ts, rest)
unfolding term_step term_text
members_step reg read ts rest some said =
    ap (λ b. term_step reg read (123 ∷ b)) (append_assoc (terms_text ts) (125 ∷ []) rest) ∙ members_said read ts rest some said

pub leaf_said : (reg : List Entity) (read : Reads Term) (t : Token) (rest : List ℕ) → is_leaf reg t ≡ true → stops is_term_byte rest ≡ true
    → term_step reg read (spell t ++ rest) ≡ Some (leaf t, rest)
leaf_said reg read (number n) rest is ends = number_said reg read n rest is ends
leaf_said reg read (token.word w) rest is ends =
    let parts = and_parts (is_word w) (is_known_word reg w) is in known_said reg read w rest parts.0 parts.1 ends
leaf_said reg read (string s) rest is ends = text_said reg read s rest is
leaf_said reg read _ rest is ends = absurd (both_ways false refl is)
