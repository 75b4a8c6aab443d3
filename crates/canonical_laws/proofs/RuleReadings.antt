-- Printed words that are tokens, whatever tokens these are the text of a tree that has a property: one law for each form of a grammar's rule.
use Rattle.std.proofs.Common.{◌≡◌, ℕ, Bool, true, false, List, [], ◌∷◌, ◌++◌, map, Option, None, Some, inl, inr, refl, sym, ap, subst, ◌∙◌, flat_map, codes}
use Rattle.std.proofs.lemmas.Bool.{and_parts}
use Rattle.std.proofs.lemmas.List.{append_assoc}
use Rattle.std.proofs.lemmas.Slice.Eq.{bytes_eq-Decides}
use Rattle.std.specs.List.{list_all}
use Rattle.std.specs.Str.{bytes_eq}
use Rattle.grammar_model.specs.Relations.{One, Empty, Seq, Image, Either, Optional, Many, Separated, Bracketed, ◌&◌, ◌&>◌, ◌<&◌}
use Rattle.idl_model.specs.Grammar.{Tokens, Keyword, Mark, KeywordPlace, terminal_at, place_of_terminal, IsId, id_at}
use Rattle.idl_model.specs.PlacedTokens.{PlacedToken, is_terminal}
use Rattle.idl_text_model.specs.Tokens.{Word, identifier, quoted, mark}
use Rattle.literal_model.specs.Shapes.{is_word}
use Rattle.registry_text_model.specs.Canonical.{listed}
use Rattle.uno_model.specs.Names.{is_identifier}
use Rattle.uno_model.specs.Sound.{is_some_list}
use Rattle.canonical_laws.proofs.Chunks.{IsChunk, AreChunks, chunks_joined, one_chunk}
use Rattle.canonical_laws.proofs.ChunkWords.{keyword_chunk, identifier_chunk, stands_alone, mark_chunk}
use Rattle.canonical_laws.specs.Written.{Each}

-- the words of tokens
abbrev pub words_in : Tokens → List Word
words_in u = map (λ t. t.word) u

-- the words are those of printed ones, and tokens with these words are the text of a tree that has R
pub record Reads {X : Type 0} (P : X → Tokens → Type 0) (R : X → Type 0) (printed : List (List ℕ)) : Type 0 where
  pub words : List Word
  pub chunks : AreChunks printed words
  pub spelled : (u : Tokens) → words_in u ≡ words → (x : X) × P x u × R x

-- ---- tokens by their words

pub split_words : (ws vs : List Word) (u : Tokens) → words_in u ≡ ws ++ vs → (p : Tokens) × (q : Tokens) × (u ≡ p ++ q) × (words_in p ≡ ws) × (words_in q ≡ vs)
split_words [] vs u same = ([], u, refl, refl, same)
split_words (w ∷ ws) vs [] same = let bad : ⊥ = cc in absurd bad
split_words (w ∷ ws) vs (t ∷ u) same =
    let behind : words_in u ≡ ws ++ vs = cc in
    let here : t.word ≡ w = cc in
    let inner = split_words ws vs u behind in
    (t ∷ inner.0, inner.1, ap (λ x. t ∷ x) inner.2, cc_front t.word w (words_in inner.0) ws here inner.3, inner.4)
  where
    cc_front : (a b : Word) (xs ys : List Word) → a ≡ b → xs ≡ ys → a ∷ xs ≡ b ∷ ys
    cc_front a b xs ys e f = cc

pub one_token : (u : Tokens) (w : Word) → words_in u ≡ w ∷ [] → (t : PlacedToken) × (u ≡ t ∷ []) × (t.word ≡ w)
one_token [] w same = let bad : ⊥ = cc in absurd bad
one_token (t ∷ []) w same = let here : t.word ≡ w = cc in (t, refl, here)
one_token (t ∷ (s ∷ u)) w same = let bad : ⊥ = cc in absurd bad

no_token : (u : Tokens) → words_in u ≡ [] → u ≡ []
no_token [] same = refl
no_token (t ∷ u) same = let bad : ⊥ = cc in absurd bad

-- ---- one word

pub reads_one : {X : Type 0} (f : PlacedToken → Option X) (R : X → Type 0) (text : List ℕ) (w : Word) → IsChunk text (w ∷ [])
    → ((t : PlacedToken) → t.word ≡ w → (x : X) × (f t ≡ Some x) × R x) → Reads (One f) R (text ∷ [])
reads_one {X = X} f R text w chunk takes = record { words = w ∷ []; chunks = one_chunk text (w ∷ []) chunk; spelled = spelled }
  where
    spelled : (u : Tokens) → words_in u ≡ w ∷ [] → (x : X) × One f x u × R x
    spelled u same =
        let token = one_token u w same in
        let taken = takes token.0 token.2 in
        (taken.0, (token.0, token.1, taken.1), taken.2)

-- what says nothing
abbrev pub Anything : {X : Type 0} → X → Type 0
Anything x = Unit {0}

same_bytes : (w : List ℕ) → bytes_eq w w ≡ true
same_bytes w = (bytes_eq-Decides w w).1 refl

quoted_here : (w : List ℕ) (t : PlacedToken) → t.word ≡ quoted w → is_terminal (quoted w) t.word ≡ true
quoted_here w t is = rw is (same_bytes w)

mark_here : (m : List ℕ) (t : PlacedToken) → t.word ≡ mark m → is_terminal (mark m) t.word ≡ true
mark_here m t is = rw is (same_bytes m)

pub reads_keyword : (w : List ℕ) → is_word w ≡ true → is_identifier w ≡ false → Reads (Keyword w) Anything (w ∷ [])
reads_keyword w word other =
    reads_one (terminal_at (quoted w)) Anything w (quoted w) (keyword_chunk w word other) (λ t is. (tt, rw (quoted_here w t is) refl, tt))

pub reads_mark : (m : List ℕ) → stands_alone m ≡ true → Reads (Mark m) Anything (m ∷ [])
reads_mark m alone = reads_one (terminal_at (mark m)) Anything m (mark m) (mark_chunk m alone) (λ t is. (tt, rw (mark_here m t is) refl, tt))

pub reads_keyword_place : (w : List ℕ) → is_word w ≡ true → is_identifier w ≡ false → Reads (KeywordPlace w) Anything (w ∷ [])
reads_keyword_place w word other =
    reads_one (place_of_terminal (quoted w)) Anything w (quoted w) (keyword_chunk w word other) (λ t is. (t.place, rw (quoted_here w t is) refl, tt))

pub reads_id : (name : List ℕ) → is_identifier name ≡ true → Reads IsId (λ id. id.name ≡ name) (name ∷ [])
reads_id name is =
    reads_one id_at (λ id. id.name ≡ name) name (identifier name) (identifier_chunk name is)
    (λ t said. (record { name = name; place = t.place }, rw said refl, refl))

-- ---- the forms of rules

pub reads_seq : {X Y : Type 0} {P : X → Tokens → Type 0} {Q : Y → Tokens → Type 0} {R : X → Type 0} {S : Y → Type 0} {ts us : List (List ℕ)}
    → Reads P R ts → Reads Q S us → Reads (P & Q) (λ z. R z.0 × S z.1) (ts ++ us)
reads_seq {X = X} {Y = Y} {P = P} {Q = Q} {R = R} {S = S} {ts = ts} {us = us} a b =
    record { words = a.words ++ b.words; chunks = chunks_joined ts us a.words b.words a.chunks b.chunks; spelled = spelled }
  where
    spelled : (u : Tokens) → words_in u ≡ a.words ++ b.words → (z : X × Y) × Seq P Q z u × (R z.0 × S z.1)
    spelled u same =
        let parts = split_words a.words b.words u same in
        let first = a.spelled parts.0 parts.3 in
        let second = b.spelled parts.1 parts.4 in
        ((first.0, second.0), (parts.0, parts.1, parts.2, first.1, second.1), (first.2, second.2))

pub reads_image : {X Y : Type 0} {P : X → Tokens → Type 0} {R : X → Type 0} {ts : List (List ℕ)} (g : X → Y) (S : Y → Type 0)
    → ((x : X) → R x → S (g x)) → Reads P R ts → Reads (Image g P) S ts
reads_image {X = X} {Y = Y} {P = P} g S makes a = record { words = a.words; chunks = a.chunks; spelled = spelled }
  where
    spelled : (u : Tokens) → words_in u ≡ a.words → (y : Y) × Image g P y u × S y
    spelled u same =
        let inner = a.spelled u same in
        (g inner.0, (inner.0, refl, inner.1), makes inner.0 inner.2)

-- the property as another one that follows
pub reads_so : {X : Type 0} {P : X → Tokens → Type 0} {R : X → Type 0} {ts : List (List ℕ)} (S : X → Type 0) → ((x : X) → R x → S x) → Reads P R ts
    → Reads P S ts
reads_so {X = X} {P = P} S makes a = record { words = a.words; chunks = a.chunks; spelled = spelled }
  where
    spelled : (u : Tokens) → words_in u ≡ a.words → (x : X) × P x u × S x
    spelled u same =
        let inner = a.spelled u same in
        (inner.0, inner.1, makes inner.0 inner.2)

-- the printed words in another grouping
pub reads_as : {X : Type 0} {P : X → Tokens → Type 0} {R : X → Type 0} (ts us : List (List ℕ)) → ts ≡ us → Reads P R ts → Reads P R us
reads_as {P = P} {R = R} ts us same a = subst (Reads P R) same a

pub reads_then : {X Y : Type 0} {P : X → Tokens → Type 0} {Q : Y → Tokens → Type 0} {R : X → Type 0} {S : Y → Type 0} {ts us : List (List ℕ)}
    → Reads P R ts → Reads Q S us → Reads (P &> Q) S (ts ++ us)
reads_then {R = R} {S = S} a b = reads_image (λ z. z.1) S (λ z both. both.1) (reads_seq a b)

pub reads_before : {X Y : Type 0} {P : X → Tokens → Type 0} {Q : Y → Tokens → Type 0} {R : X → Type 0} {S : Y → Type 0} {ts us : List (List ℕ)}
    → Reads P R ts → Reads Q S us → Reads (P <& Q) R (ts ++ us)
reads_before {R = R} {S = S} a b = reads_image (λ z. z.0) R (λ z both. both.0) (reads_seq a b)

pub reads_left : {X : Type 0} {P : X → Tokens → Type 0} {R : X → Type 0} {ts : List (List ℕ)} (Q : X → Tokens → Type 0) → Reads P R ts → Reads (Either P Q) R ts
reads_left {X = X} {P = P} {R = R} Q a = record { words = a.words; chunks = a.chunks; spelled = spelled }
  where
    spelled : (u : Tokens) → words_in u ≡ a.words → (x : X) × Either P Q x u × R x
    spelled u same =
        let inner = a.spelled u same in
        (inner.0, inl inner.1, inner.2)

pub reads_right : {X : Type 0} {Q : X → Tokens → Type 0} {R : X → Type 0} {ts : List (List ℕ)} (P : X → Tokens → Type 0) → Reads Q R ts
    → Reads (Either P Q) R ts
reads_right {X = X} {Q = Q} {R = R} P a = record { words = a.words; chunks = a.chunks; spelled = spelled }
  where
    spelled : (u : Tokens) → words_in u ≡ a.words → (x : X) × Either P Q x u × R x
    spelled u same =
        let inner = a.spelled u same in
        (inner.0, inr inner.1, inner.2)

pub reads_none : {X : Type 0} (P : X → Tokens → Type 0) (R : Option X → Type 0) → R None → Reads (Optional P) R []
reads_none {X = X} P R is = record { words = []; chunks = refl; spelled = spelled }
  where
    spelled : (u : Tokens) → words_in u ≡ [] → (o : Option X) × Optional P o u × R o
    spelled u same = (None, no_token u same, is)

pub reads_some : {X : Type 0} {P : X → Tokens → Type 0} {R : X → Type 0} {ts : List (List ℕ)} (S : Option X → Type 0) → ((x : X) → R x → S (Some x))
    → Reads P R ts
    → Reads (Optional P) S ts
reads_some {X = X} {P = P} S makes a = record { words = a.words; chunks = a.chunks; spelled = spelled }
  where
    spelled : (u : Tokens) → words_in u ≡ a.words → (o : Option X) × Optional P o u × S o
    spelled u same =
        let inner = a.spelled u same in
        (Some inner.0, inner.1, makes inner.0 inner.2)

pub reads_empty : {X : Type 0} (x : X) (R : X → Type 0) → R x → Reads (Empty x) R []
reads_empty {X = X} x R is = record { words = []; chunks = refl; spelled = spelled }
  where
    spelled : (u : Tokens) → words_in u ≡ [] → (y : X) × Empty x y u × R y
    spelled u same = (x, (refl, no_token u same), is)

-- ---- repeated

pub reads_no_more : {X A : Type 0} (P : X → Tokens → Type 0) (R : X → A → Type 0) → Reads (Many P) (λ xs. Each R xs []) []
unfolding Many
reads_no_more {X = X} P R = record { words = []; chunks = refl; spelled = spelled }
  where
    spelled : (u : Tokens) → words_in u ≡ [] → (xs : List X) × Many P xs u × Each R xs []
    spelled u same = ([], no_token u same, tt)

pub reads_one_more : {X A : Type 0} {P : X → Tokens → Type 0} {R : X → A → Type 0} (a : A) (bs : List A) {ts us : List (List ℕ)} → Reads P (λ x. R x a) ts
    → Reads (Many P) (λ xs. Each R xs bs) us → Reads (Many P) (λ xs. Each R xs (a ∷ bs)) (ts ++ us)
unfolding Many
reads_one_more {X = X} {P = P} {R = R} a bs {ts = ts} {us = us} one others =
    record { words = one.words ++ others.words; chunks = chunks_joined ts us one.words others.words one.chunks others.chunks; spelled = spelled }
  where
    spelled : (u : Tokens) → words_in u ≡ one.words ++ others.words → (xs : List X) × Many P xs u × Each R xs (a ∷ bs)
    spelled u same =
        let parts = split_words one.words others.words u same in
        let first = one.spelled parts.0 parts.3 in
        let second = others.spelled parts.1 parts.4 in
        (first.0 ∷ second.0, (parts.0, parts.1, parts.2, first.1, second.1), (first.2, second.2))

-- one for each of a list whose elements pass a test
pub reads_many : {X A : Type 0} (P : X → Tokens → Type 0) (R : X → A → Type 0) (tokens : A → List (List ℕ)) (fine : A → Bool)
    → ((a : A) → fine a ≡ true → Reads P (λ x. R x a) (tokens a)) → (bs : List A) → list_all fine bs ≡ true
    → Reads (Many P) (λ xs. Each R xs bs) (flat_map tokens bs)
reads_many P R tokens fine each [] all = reads_no_more P R
reads_many P R tokens fine each (a ∷ bs) all =
    let parts = and_parts (fine a) (list_all fine bs) all in
    reads_one_more a bs (each a parts.0) (reads_many P R tokens fine each bs parts.1)

-- and with a comma before each but the first
pub reads_listed : {X A : Type 0} (P : X → Tokens → Type 0) (R : X → A → Type 0) (tokens : A → List (List ℕ)) (fine : A → Bool)
    → ((a : A) → fine a ≡ true → Reads P (λ x. R x a) (tokens a)) → (bs : List A) → is_some_list bs ≡ true → list_all fine bs ≡ true
    → Reads (Separated P (Mark (codes ","))) (λ xs. Each R xs bs) (listed tokens bs)
unfolding listed
reads_listed P R tokens fine each [] some all = let bad : ⊥ = cc in absurd bad
reads_listed P R tokens fine each (a ∷ bs) some all =
    let parts = and_parts (fine a) (list_all fine bs) all in
    reads_image (λ z. z.0 ∷ z.1) (λ xs. Each R xs (a ∷ bs)) (λ z both. both)
    (reads_seq (each a parts.0)
    (reads_many (Mark (codes ",") &> P) R (λ b. codes "," ∷ tokens b) fine (λ b is. reads_then (reads_mark (codes ",") refl) (each b is)) bs parts.1))

many_front : {X : Type 0} (P : X → Tokens → Type 0) (xs ys : List X) (u v : Tokens) → Many P xs u → Many P ys v → Many P (xs ++ ys) (u ++ v)
unfolding Many
many_front P [] ys u v none others = subst (λ w. Many P ys (w ++ v)) (sym none) others
many_front P (x ∷ xs) ys u v (p, q, whole, one, more) others =
    (p, q ++ v, ap (λ w. w ++ v) whole ∙ append_assoc p q v, one, many_front P xs ys q v more others)

-- some, and others behind them
pub many_joined : {X : Type 0} (P : X → Tokens → Type 0) (R S : List X → Type 0) (M : List X → Type 0) → ((xs ys : List X) → R xs → S ys → M (xs ++ ys))
    → (ts us : List (List ℕ))
    → Reads (Many P) R ts → Reads (Many P) S us → Reads (Many P) M (ts ++ us)
many_joined {X = X} P R S M makes ts us a b =
    record { words = a.words ++ b.words; chunks = chunks_joined ts us a.words b.words a.chunks b.chunks; spelled = spelled }
  where
    spelled : (u : Tokens) → words_in u ≡ a.words ++ b.words → (zs : List X) × Many P zs u × M zs
    spelled u same =
        let parts = split_words a.words b.words u same in
        let first = a.spelled parts.0 parts.3 in
        let second = b.spelled parts.1 parts.4 in (
          first.0 ++ second.0,
          subst (Many P (first.0 ++ second.0)) (sym parts.2) (many_front P first.0 second.0 parts.0 parts.1 first.1 second.1),
          makes first.0 second.0 first.2 second.2,
        )

-- ---- between brackets

pub reads_bracketed : {X Y Z W : Type 0} {P : X → Tokens → Type 0} {J : W → Tokens → Type 0} {Q : Y → Tokens → Type 0} {R : X → Type 0}
    {S : W → Type 0} {T : Y → Type 0} {ts us vs : List (List ℕ)} (K : Z → Tokens → Type 0) (M : Z → Type 0) (make : X → W → Z)
    → ((x : X) (w : W) (u : Tokens) → Bracketed P (λ v. J w v) Q x u → K (make x w) u) → ((x : X) (w : W) → R x → S w → M (make x w)) → Reads P R ts
    → Reads J S us → Reads Q T vs
    → Reads K M (ts ++ (us ++ vs))
reads_bracketed {X = X} {Y = Y} {Z = Z} {W = W} {P = P} {J = J} {Q = Q} {ts = ts} {us = us} {vs = vs} K M make joins makes a b c = record {
  words = a.words ++ (b.words ++ c.words);
  chunks = chunks_joined ts (us ++ vs) a.words (b.words ++ c.words) a.chunks (chunks_joined us vs b.words c.words b.chunks c.chunks);
  spelled = spelled;
}
  where
    spelled : (u : Tokens) → words_in u ≡ a.words ++ (b.words ++ c.words) → (z : Z) × K z u × M z
    spelled u same =
        let outer = split_words a.words (b.words ++ c.words) u same in
        let inner = split_words b.words c.words outer.1 outer.4 in
        let first = a.spelled outer.0 outer.3 in
        let second = b.spelled inner.0 inner.3 in
        let third = c.spelled inner.1 inner.4 in
        let whole : u ≡ outer.0 ++ (inner.0 ++ inner.1) = outer.2 ∙ ap (λ x. outer.0 ++ x) inner.2 in (
          make first.0 second.0,
          joins first.0 second.0 u
              (outer.0, inner.0, inner.1, whole, first.1, second.1, (third.0, third.1)),
          makes first.0 second.0 first.2 second.2,
        )
