-- The printed words of names, types and numbers are read as paths, types and expressions that write them.
use Rattle.std.proofs.Common.{◌≡◌, ℕ, suc, ◌^◌, ℤ, pos, negsuc, Bool, true, false, ◌&&◌, nat_lt, nat_le, List, [], ◌∷◌, ◌++◌, map, Option, Some, inl, inr, refl}
use Rattle.std.proofs.Common.{sym, ap, subst}
use Rattle.std.proofs.Common.{◌∙◌, codes}
use Rattle.std.proofs.lemmas.Bool.{and_parts, ltb-true}
use Rattle.std.proofs.lemmas.List.{append-nil}
use Rattle.std.specs.Fmt.{decimal}
use Rattle.std.specs.List.{list_all}
use Rattle.grammar_model.specs.Relations.{One, Many, ◌&◌, ◌&>◌}
use Rattle.idl_model.specs.Grammar.{Tokens, Mark, KeywordPlace, IsId, IsName, path_of, of_table, of_marks, simple_words, unsigned_words}
use Rattle.idl_model.specs.Grammar.{placed_simple, simple_at, unsigned_at, IsType, sign_marks, IsSign, IsNumber, number_of, IsExpr, IsRaises, MayRaise}
use Rattle.idl_model.specs.Grammar.{listed_of}
use Rattle.idl_model.specs.Places.{Place}
use Rattle.idl_model.specs.Trees.{Id, Path, Simple, WrittenType, simple, named, sequence_of, no_arguments, negative, Expr, number, signed}
use Rattle.idl_model.specs.Trees as tree
use Rattle.idl_text_model.specs.Tokens.{identifier, quoted, mark}
use Rattle.idl_text_model.specs.Tokens as token
use Rattle.literal_model.specs.Shapes.{is_word}
use Rattle.registry_text_model.specs.Canonical.{absolute, kind_tokens, number_tokens, raises_tokens}
use Rattle.uno_model.specs.Kinds.{Kind, nesting}
use Rattle.uno_model.specs.Kinds as kd
use Rattle.uno_model.specs.Names.{is_identifier, is_entity_name, parts_of}
use Rattle.canonical_laws.proofs.Chunks.{one_chunk}
use Rattle.canonical_laws.proofs.ChunkWords.{keyword_chunk, mark_chunk, name_words, name_chunk, some_parts}
use Rattle.canonical_laws.proofs.Numerals.{number_chunk}
use Rattle.canonical_laws.proofs.RuleReadings.{words_in, Reads, reads_one, Anything, reads_keyword, reads_mark, reads_keyword_place}
use Rattle.canonical_laws.proofs.RuleReadings.{reads_seq, reads_image, reads_then, reads_before, reads_none, reads_some}
use Rattle.canonical_laws.proofs.RuleReadings.{reads_listed, reads_bracketed}
use Rattle.canonical_laws.specs.Written.{Each, WritesName, simple_of, name_in, WritesType, expression_of}

-- ---- names

-- identifiers behind `::` each
more_parts : (ps : List (List ℕ)) (u : Tokens) → words_in u ≡ name_words ps
    → (ids : List Id) × Many (Mark (codes "::") &> IsId) ids u × (map (λ i. i.name) ids ≡ ps)
unfolding Many
more_parts [] [] same = ([], refl, refl)
more_parts [] (t ∷ u) same = let bad : ⊥ = cc in absurd bad
more_parts (p ∷ ps) [] same = let bad : ⊥ = cc in absurd bad
more_parts (p ∷ ps) (t ∷ []) same = let bad : ⊥ = cc in absurd bad
more_parts (p ∷ ps) (t ∷ (s ∷ u)) same =
    let first : t.word ≡ mark (codes "::") = cc in
    let second : s.word ≡ identifier p = cc in
    let behind : words_in u ≡ name_words ps = cc in
    let inner = more_parts ps u behind in
    let id : Id = record { name = p; place = s.place } in (
      id ∷ inner.0,
      (t ∷ (s ∷ []), u, refl, ((tt, id), refl, (t ∷ [], s ∷ [], refl, (t, refl, rw first refl), (s, refl, rw second refl))), inner.1),
      ap (λ x. p ∷ x) inner.2,
    )

name_parsed : (p : List ℕ) (ps : List (List ℕ)) (u : Tokens) → words_in u ≡ name_words (p ∷ ps)
    → (path : Path) × IsName path u × (path.absolute ≡ true) × (path.parts ≡ p ∷ ps)
name_parsed p ps [] same = let bad : ⊥ = cc in absurd bad
name_parsed p ps (t ∷ []) same = let bad : ⊥ = cc in absurd bad
name_parsed p ps (t ∷ (s ∷ u)) same =
    let first : t.word ≡ mark (codes "::") = cc in
    let second : s.word ≡ identifier p = cc in
    let behind : words_in u ≡ name_words ps = cc in
    let inner = more_parts ps u behind in
    let id : Id = record { name = p; place = s.place } in
    let z : Option Place × (Id × List Id) = (Some t.place, (id, inner.0)) in (
      path_of z,
      (z, refl, (t ∷ [], s ∷ u, refl, (t, refl, rw first refl), (s ∷ [], u, refl, (s, refl, rw second refl), inner.1))),
      refl,
      ap (λ x. p ∷ x) inner.2,
    )

pub reads_name : (full : List ℕ) → is_entity_name full ≡ true → Reads IsName (λ path. WritesName path full) (absolute full ∷ [])
reads_name full is =
    record { words = name_words (parts_of full); chunks = one_chunk (absolute full) (name_words (parts_of full)) (name_chunk full is); spelled = spelled }
  where
    spelled : (u : Tokens) → words_in u ≡ name_words (parts_of full) → (path : Path) × IsName path u × WritesName path full
    spelled u same =
        let some = some_parts full in
        let parsed = name_parsed some.0 some.1 u (subst (λ ps. words_in u ≡ name_words ps) some.2 same) in
        (parsed.0, parsed.1, record { absolute = parsed.2; parts = parsed.3 ∙ sym some.2 })

-- ---- types

-- the names in a type are names of entities
abbrev pub kind_named : Kind → Bool
kind_named (kd.enum name) = is_entity_name name
kind_named (kd.struct name) = is_entity_name name
kind_named (kd.exception name) = is_entity_name name
kind_named (kd.interface name) = is_entity_name name
kind_named (kd.sequence k) = kind_named k
kind_named _ = true

abbrev Typed : Kind → List (List ℕ) → Type 0
Typed k ts = Reads IsType (λ t. WritesType t k) ts

simple_read : (k : Kind) (w : List ℕ) (s : Simple) → is_word w ≡ true → is_identifier w ≡ false → of_table simple_words (quoted w) ≡ Some s
    → simple_of k ≡ Some s → Typed k (w ∷ [])
unfolding IsType WritesType
simple_read k w s word other row is = record { words = one.words; chunks = one.chunks; spelled = spelled }
  where
    one : Reads (One simple_at) (λ z. z.1 ≡ s) (w ∷ [])
    one =
        reads_one simple_at (λ z. z.1 ≡ s) w (quoted w) (keyword_chunk w word other) (λ t said. ((t.place, s), rw said (ap (placed_simple t.place) row), refl))

    spelled : (u : Tokens) → words_in u ≡ one.words → (t : WrittenType) × IsType t u × WritesType t k
    spelled u same =
        let inner = one.spelled u same in
        (simple (inner.0).0 (inner.0).1, inr inner.1, is ∙ ap Some (sym inner.2))

unsigned_read : (k : Kind) (w : List ℕ) (s : Simple) → is_word w ≡ true → is_identifier w ≡ false → of_table unsigned_words (quoted w) ≡ Some s
    → simple_of k ≡ Some s
    → Typed k (codes "unsigned" ∷ (w ∷ []))
unfolding IsType WritesType
unsigned_read k w s word other row is = record { words = both.words; chunks = both.chunks; spelled = spelled }
  where
    second : Reads (One unsigned_at) (λ z. z ≡ s) (w ∷ [])
    second = reads_one unsigned_at (λ z. z ≡ s) w (quoted w) (keyword_chunk w word other) (λ t said. (s, rw said row, refl))

    both : Reads (KeywordPlace (codes "unsigned") & One unsigned_at) (λ z. Anything z.0 × (z.1 ≡ s)) (codes "unsigned" ∷ (w ∷ []))
    both = reads_seq (reads_keyword_place (codes "unsigned") refl refl) second

    spelled : (u : Tokens) → words_in u ≡ both.words → (t : WrittenType) × IsType t u × WritesType t k
    spelled u same =
        let inner = both.spelled u same in
        (simple (inner.0).0 (inner.0).1, inl inner.1, is ∙ ap Some (sym (inner.2).1))

named_read : (k : Kind) (full : List ℕ) → name_in k ≡ Some full → is_entity_name full ≡ true → Typed k (absolute full ∷ [])
unfolding IsType WritesType
named_read k full is full_named = record { words = one.words; chunks = one.chunks; spelled = spelled }
  where
    one : Reads IsName (λ path. WritesName path full) (absolute full ∷ [])
    one = reads_name full full_named

    spelled : (u : Tokens) → words_in u ≡ one.words → (t : WrittenType) × IsType t u × WritesType t k
    spelled u same =
        let inner = one.spelled u same in
        (named inner.0 no_arguments, inner.1, (full, is, inner.2))

sequence_read : (k : Kind) (ts : List (List ℕ)) → Typed k ts → Typed (kd.sequence k) (codes "sequence" ∷ (codes "<" ∷ (ts ++ codes ">" ∷ [])))
unfolding IsType WritesType
sequence_read k ts inner =
    reads_bracketed IsType (λ t. WritesType t (kd.sequence k)) (λ place t. sequence_of place t) (λ place t u between. between)
    (λ place t any written. (k, refl, written))
    (reads_before (reads_keyword_place (codes "sequence") refl refl) (reads_mark (codes "<") refl)) inner (reads_mark (codes ">") refl)

pub reads_type : (k : Kind) → kind_named k ≡ true → Typed k (kind_tokens k)
unfolding kind_tokens
reads_type kd.void is = simple_read kd.void (codes "void") tree.void refl refl refl refl
reads_type kd.char is = simple_read kd.char (codes "char") tree.char refl refl refl refl
reads_type kd.boolean is = simple_read kd.boolean (codes "boolean") tree.boolean refl refl refl refl
reads_type kd.byte is = simple_read kd.byte (codes "byte") tree.byte refl refl refl refl
reads_type kd.short is = simple_read kd.short (codes "short") tree.short refl refl refl refl
reads_type kd.unsigned_short is = unsigned_read kd.unsigned_short (codes "short") tree.unsigned_short refl refl refl refl
reads_type kd.long is = simple_read kd.long (codes "long") tree.long refl refl refl refl
reads_type kd.unsigned_long is = unsigned_read kd.unsigned_long (codes "long") tree.unsigned_long refl refl refl refl
reads_type kd.hyper is = simple_read kd.hyper (codes "hyper") tree.hyper refl refl refl refl
reads_type kd.unsigned_hyper is = unsigned_read kd.unsigned_hyper (codes "hyper") tree.unsigned_hyper refl refl refl refl
reads_type kd.str is = simple_read kd.str (codes "string") tree.str refl refl refl refl
reads_type kd.kind is = simple_read kd.kind (codes "type") tree.kind refl refl refl refl
reads_type kd.any is = simple_read kd.any (codes "any") tree.any refl refl refl refl
reads_type (kd.enum full) is = named_read (kd.enum full) full refl is
reads_type (kd.struct full) is = named_read (kd.struct full) full refl is
reads_type (kd.exception full) is = named_read (kd.exception full) full refl is
reads_type (kd.interface full) is = named_read (kd.interface full) full refl is
reads_type (kd.sequence k) is = sequence_read k (kind_tokens k) (reads_type k is)

-- and at most 64 sequences stand round the innermost
abbrev pub fine_kind : Kind → Bool
fine_kind k = kind_named k && nat_le (nesting k) 64

pub reads_kind : (k : Kind) → fine_kind k ≡ true → Typed k (kind_tokens k)
reads_kind k fine = reads_type k (and_parts (kind_named k) (nat_le (nesting k) 64) fine).0

-- ---- numbers

-- below 2^64, and the sign apart
abbrev pub is_small : ℤ → Bool
is_small (pos n) = nat_lt n (2 ^ 64)
is_small (negsuc n) = nat_lt (suc n) (2 ^ 64)

plain_number : (n : ℕ) → nat_lt n (2 ^ 64) ≡ true → Reads IsExpr (λ e. e ≡ number n) (decimal n ∷ [])
unfolding IsExpr
plain_number n small = record { words = one.words; chunks = one.chunks; spelled = spelled }
  where
    one : Reads IsNumber (λ m. m ≡ n) (decimal n ∷ [])
    one =
        reads_one (λ t. number_of t.word) (λ m. m ≡ n) (decimal n) (token.number n) (number_chunk n (ltb-true n (2 ^ 64) small))
        (λ t said. (n, rw said refl, refl))

    spelled : (u : Tokens) → words_in u ≡ one.words → (e : Expr) × IsExpr e u × (e ≡ number n)
    spelled u same =
        let inner = one.spelled u same in
        (number inner.0, inner.1, ap number inner.2)

one_sign : Reads IsSign (λ s. s ≡ negative) (codes "-" ∷ [])
one_sign =
    reads_one (λ t. of_marks sign_marks t.word) (λ s. s ≡ negative) (codes "-") (mark (codes "-")) (mark_chunk (codes "-") refl)
    (λ t said. (negative, rw said refl, refl))

negative_number : (n : ℕ) → nat_lt n (2 ^ 64) ≡ true → Reads IsExpr (λ e. e ≡ signed (negative ∷ []) (number n)) (codes "-" ∷ (decimal n ∷ []))
unfolding IsExpr Many
negative_number n small = record { words = both.words; chunks = both.chunks; spelled = spelled }
  where
    both : Reads (IsSign & IsExpr) (λ z. (z.0 ≡ negative) × (z.1 ≡ number n)) (codes "-" ∷ (decimal n ∷ []))
    both = reads_seq one_sign (plain_number n small)

    spelled : (u : Tokens) → words_in u ≡ both.words → (e : Expr) × IsExpr e u × (e ≡ signed (negative ∷ []) (number n))
    spelled u same =
        let inner = both.spelled u same in
        let parts = inner.1 in
        let sign : IsSign negative parts.0 = subst (λ s. IsSign s parts.0) (inner.2).0 parts.3 in
        let amount : IsExpr (number n) parts.1 = subst (λ e. IsExpr e parts.1) (inner.2).1 parts.4 in
        (signed (negative ∷ []) (number n), (parts.0, parts.1, parts.2, (parts.0, [], sym (append-nil parts.0), sign, refl), amount, refl), refl)

pub reads_number : (z : ℤ) → is_small z ≡ true → Reads IsExpr (λ e. e ≡ expression_of z) (number_tokens z)
unfolding number_tokens
reads_number (pos n) small = plain_number n small
reads_number (negsuc n) small = negative_number (suc n) small

-- ---- what is raised

abbrev pub Raised : List (List ℕ) → List Path → Type 0
Raised names paths = Each WritesName paths names

pub reads_some_raises : (n : List ℕ) (ns : List (List ℕ)) → list_all is_entity_name (n ∷ ns) ≡ true → Reads IsRaises (Raised (n ∷ ns)) (raises_tokens (n ∷ ns))
reads_some_raises n ns all =
    reads_then (reads_keyword (codes "raises") refl refl) (reads_then (reads_mark (codes "(") refl)
    (reads_before (reads_listed IsName WritesName (λ full. absolute full ∷ []) is_entity_name reads_name (n ∷ ns) refl all) (reads_mark (codes ")") refl)))

pub reads_raises : (names : List (List ℕ)) → list_all is_entity_name names ≡ true → Reads MayRaise (Raised names) (raises_tokens names ++ codes ";" ∷ [])
reads_raises [] all =
    reads_image listed_of (Raised []) (λ o is. is) (reads_before (reads_none IsRaises (λ o. Raised [] (listed_of o)) tt) (reads_mark (codes ";") refl))
reads_raises (n ∷ ns) all =
    reads_image listed_of (Raised (n ∷ ns)) (λ o is. is)
    (reads_before (reads_some (λ o. Raised (n ∷ ns) (listed_of o)) (λ paths is. is) (reads_some_raises n ns all)) (reads_mark (codes ";") refl))
