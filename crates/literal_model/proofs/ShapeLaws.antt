-- A value that fits has a shape: its literal is cut into just its tokens.
use Rattle.std.proofs.Common.{◌≡◌, ◌≢◌, ℕ, zero, suc, ◌<◌, ◌≤◌, ◌^◌, ℤ, pos, negsuc, Bool, true, false, not, ◌&&◌, ◌||◌, ◌==◌, List, [], ◌∷◌, ◌++◌, length}
use Rattle.std.proofs.Common.{map, Option, None, Some, Result, Ok, Err, inl, inr, IsTrue, refl, sym, ap, subst, ◌∙◌, arith, length-append, FitsSigned}
use Rattle.std.proofs.lemmas.Bool.{and_parts, and_from, both_ways, or_left, or_right, eqb-true}
use Rattle.std.proofs.lemmas.Bool.Decides.{Decides-int_eq}
use Rattle.std.proofs.lemmas.Fmt.{decimal_nonempty}
use Rattle.std.proofs.lemmas.List.{append_assoc, append-nil}
use Rattle.std.proofs.lemmas.Slice.Eq.{bytes_eq-Decides}
use mir.Val.{hbits}
use Rattle.std.specs.Int.{Width, w8, w16, w32, w64, cast_signed}
use Rattle.std.specs.List.{list_all, list_any, flat_map}
use Rattle.std.specs.Ordering.{int_eq}
use Rattle.std.specs.Str.{bytes_eq}
use Rattle.literal_model.proofs.CompleteLaws.{append_none, Begins, value_begins, void_fits, signed_range}
use Rattle.uno_model.proofs.NameLaws.{there_named}
use Rattle.literal_model.proofs.ScanBackLaws.{NumberFits, ends_run, number_back, word_back, string_back, type_back}
use Rattle.literal_model.proofs.TypedLaws.{bare, any_tokens}
use Rattle.uno_model.specs.Defaults.{items_of}
use Rattle.uno_model.specs.Entities.{Entity, Item, Body}
use Rattle.uno_model.specs.Entities as plain
use Rattle.uno_model.specs.Fits.{Fits, FitEach, FitAll, IsTupleKind, member_kinds}
use Rattle.uno_model.specs.Kinds.{Kind, name_of}
use Rattle.uno_model.specs.Kinds as kd
use Rattle.literal_model.specs.Literals.{first_item, escaped, print, object, ref_token, Bracket, square, curly, Token, opens, closes, comma, number, word, string, named, cast, spell, spells, tokens_of}
use Rattle.literal_model.specs.Literals.{tokens_in, byte_tokens, comma_tokens, item_token}
use Rattle.uno_model.specs.Names.{is_identifier, is_entity_name, parts_of, begins_identifier, goes_on_identifier}
use Rattle.literal_model.specs.Readings.{is_void}
use Rattle.uno_model.specs.Registry.{find_entity, all_members}
use Rattle.literal_model.specs.Shapes.{is_some_name}
use Rattle.literal_model.specs.Shapes.{is_first_name, is_own_word, is_known_word, is_word, on_ok, is_name_byte, type_at, cast_of, string_at, value_at, Awaited, value}
use Rattle.literal_model.specs.Shapes.{element, separator, behind_cast, behind, opened, separator_at, element_at, token_at, Placed, is_at_end, tokens_at, judge}
use Rattle.uno_model.specs.Sound.{IsSound, is_named, is_there, is_enum, is_struct, is_exception}
use Rattle.uno_model.specs.Uses.{inner_names}
use Rattle.uno_model.specs.Sound.{is_interface, kind_known, elements_storable, is_namable, is_some_list, has_member}
use Rattle.uno_model.specs.Spellable.{AreBytes, IsSpellable, AreSpellable}
use Rattle.uno_model.specs.Types.{is_formed, is_type}
use Rattle.uno_model.specs.Values.{Ref, null, own, peer, Plain, Plains, none, more, refs, refs_in, object_in}
use Rattle.uno_model.specs.Values as v

-- ---- the bytes of a type's name

identifier_bytes : (cs : List ℕ) → is_identifier cs ≡ true → list_all is_name_byte cs ≡ true
identifier_bytes [] is = refl
identifier_bytes (c ∷ cs) is =
    let parts = and_parts (begins_identifier c && list_all goes_on_identifier cs) _ is in
    let inner = and_parts (begins_identifier c) (list_all goes_on_identifier cs) parts.0 in
    and_from (is_name_byte c) _ (grind (arith, inner.0)) (each cs inner.1)
  where
    each : (ds : List ℕ) → list_all goes_on_identifier ds ≡ true → list_all is_name_byte ds ≡ true
    each [] all = refl
    each (d ∷ ds) all = let more_it = and_parts (goes_on_identifier d) (list_all goes_on_identifier ds) all in
        and_from (is_name_byte d) _ (or_left (goes_on_identifier d) _ more_it.0) (each ds more_it.1)

-- each part of a name has such bytes alone, and so the name
parts_bytes : (cs : List ℕ) → list_all (list_all is_name_byte) (parts_of cs) ≡ true → list_all is_name_byte cs ≡ true
unfolding parts_of
parts_bytes [] all = refl
parts_bytes (c ∷ cs) all = by_point (c == 46) refl (parts_of cs) refl (parts_bytes cs)
  where
    by_point : (b : Bool) → (c == 46) ≡ b → (parts : List (List ℕ)) → parts_of cs ≡ parts
        → (list_all (list_all is_name_byte) (parts_of cs) ≡ true → list_all is_name_byte cs ≡ true) → list_all is_name_byte (c ∷ cs) ≡ true
    by_point true point parts is inner =
        let behind_it : list_all (list_all is_name_byte) (parts_of cs) ≡ true = rw point at all in
        and_from (is_name_byte c) _ (or_right (goes_on_identifier c) _ (or_left (c == 46) _ point)) (inner behind_it)
    by_point false other [] is inner =
        let one : (is_name_byte c && true) && true ≡ true = rw (other, is) at all in
        let passes = (and_parts (is_name_byte c) true (and_parts (is_name_byte c && true) true one).0).0 in
        and_from (is_name_byte c) _ passes (inner (ap (list_all (list_all is_name_byte)) is))
    by_point false other (part ∷ parts) is inner =
        let one : (is_name_byte c && list_all is_name_byte part) && list_all (list_all is_name_byte) parts ≡ true = rw (other, is) at all in
        let front_it = and_parts (is_name_byte c && list_all is_name_byte part) _ one in
        let first = and_parts (is_name_byte c) (list_all is_name_byte part) front_it.0 in
        and_from (is_name_byte c) _ first.0 (inner (ap (list_all (list_all is_name_byte)) is ∙ and_from (list_all is_name_byte part) _ first.1 front_it.1))

entity_bytes : (name : List ℕ) → is_entity_name name ≡ true → list_all is_name_byte name ≡ true
entity_bytes name is = parts_bytes name (each (parts_of name) is)
  where
    each : (parts : List (List ℕ)) → list_all is_identifier parts ≡ true → list_all (list_all is_name_byte) parts ≡ true
    each [] all = refl
    each (p ∷ ps) all = let more_it = and_parts (is_identifier p) (list_all is_identifier ps) all in and_from (list_all is_name_byte p) _ (identifier_bytes p more_it.0) (each ps more_it.1)

kind_bytes : (reg : List Entity) (k : Kind) → list_all is_named reg ≡ true → kind_known reg k ≡ true → list_all is_name_byte (name_of k) ≡ true
kind_bytes reg (kd.enum name) named_all known = entity_bytes name (there_named reg is_enum name named_all known)
kind_bytes reg (kd.struct name) named_all known = entity_bytes name (there_named reg is_struct name named_all known)
kind_bytes reg (kd.exception name) named_all known = entity_bytes name (there_named reg is_exception name named_all known)
kind_bytes reg (kd.interface name) named_all known = entity_bytes name (there_named reg is_interface name named_all known)
kind_bytes reg (kd.sequence k) named_all known = kind_bytes reg k named_all known
kind_bytes reg _ named_all known = refl

-- ---- the tokens of a registry

abbrev pub IsToken : List Entity → Token → Type 0
IsToken reg (number z) = NumberFits z
IsToken reg (word w) = IsTrue (is_word w) × IsTrue (is_known_word reg w)
IsToken reg (named k) = IsTrue (is_type reg k)
IsToken reg (cast k) = IsTrue (is_type reg k) × (k ≢ kd.any)
IsToken reg (object oid face) = ⊥
IsToken reg _ = Unit

abbrev pub AreTokensOf : List Entity → List Token → Type 0
AreTokensOf reg [] = Unit
AreTokensOf reg (t ∷ ts) = IsToken reg t × AreTokensOf reg ts

known_of : (reg : List Entity) (k : Kind) → is_type reg k ≡ true → kind_known reg k ≡ true
known_of reg k type = (and_parts (kind_known reg k) (elements_storable k) (and_parts (is_formed reg k) (is_namable k) type).0).0

-- a token that begins a value
abbrev pub is_front : Token → Bool
is_front (closes b) = false
is_front comma = false
is_front _ = true

-- behind a number or a word no run goes on
abbrev pub Follows : Token → List ℕ → Type 0
Follows (number z) r = ends_run r ≡ true
Follows (word w) r = ends_run r ≡ true
Follows _ r = Unit

cast_back : (left : ℕ) (k : Kind) (r : List ℕ) → k ≢ kd.any → cast_of left (k, r) ≡ Ok (cast k, r)
cast_back left kd.any r other = absurd (other refl)
cast_back left _ r other = refl

front_back : (reg : List Entity) (t : Token) (r : List ℕ) → list_all is_named reg ≡ true → is_front t ≡ true → IsToken reg t → Follows t r → value_at reg (spell t ++ r) ≡ Ok (t, r)
unfolding value_at
front_back reg (opens square) r named_all is good follows = refl
front_back reg (opens curly) r named_all is good follows = refl
front_back reg (closes b) r named_all is good follows = let bad : ⊥ = cc in absurd bad
front_back reg comma r named_all is good follows = let bad : ⊥ = cc in absurd bad
front_back reg (number z) r named_all is good follows = number_back reg z r good follows
front_back reg (word w) r named_all is good follows = word_back reg w r good.0 good.1 follows
front_back reg (string s) r named_all is good follows =
    let text : (flat_map escaped s ++ 34 ∷ []) ++ r ≡ flat_map escaped s ++ 34 ∷ r = append_assoc (flat_map escaped s) (34 ∷ []) r in
    let reads : string_at false ((flat_map escaped s ++ 34 ∷ []) ++ r) ≡ Ok (s, r) = ap (string_at false) text ∙ string_back s r in
    ap (λ m. on_ok {B = Token × List ℕ} m (λ x. Ok (string x.0, x.1))) reads
front_back reg (named k) r named_all is good follows =
    let text : (name_of k ++ 62 ∷ []) ++ r ≡ name_of k ++ 62 ∷ r = append_assoc (name_of k) (62 ∷ []) r in
    let reads : type_at reg 62 ((name_of k ++ 62 ∷ []) ++ r) ≡ Ok (k, r) = ap (type_at reg 62) text ∙ type_back reg 62 k r named_all good (kind_bytes reg k named_all (known_of reg k good)) refl in
    ap (λ m. on_ok {B = Token × List ℕ} m (λ x. Ok (named x.0, x.1))) reads
front_back reg (object oid face) r named_all is good follows = absurd good
front_back reg (cast k) r named_all is good follows =
    let text : (name_of k ++ 41 ∷ []) ++ r ≡ name_of k ++ 41 ∷ r = append_assoc (name_of k) (41 ∷ []) r in
    let reads : type_at reg 41 ((name_of k ++ 41 ∷ []) ++ r) ≡ Ok (k, r) = ap (type_at reg 41) text ∙ type_back reg 41 k r named_all good.0 (kind_bytes reg k named_all (known_of reg k good.0)) refl in
    ap (λ m. on_ok m (cast_of (length ((name_of k ++ 41 ∷ []) ++ r)))) reads ∙ cast_back (length ((name_of k ++ 41 ∷ []) ++ r)) k r good.1

-- ---- the order of tokens

abbrev pub same_bracket : Bracket → Bracket → Bool
same_bracket square square = true
same_bracket curly curly = true
same_bracket _ _ = false

-- the token may stand where this is awaited
abbrev pub may : Awaited → List Bracket → Token → Bool
may value outer t = is_front t
may element outer (closes square) = true
may element outer (closes curly) = false
may element outer t = is_front t
may separator [] t = false
may separator (b ∷ outer) comma = true
may separator (b ∷ outer) (closes c) = same_bracket b c
may separator (b ∷ outer) t = false

unfoldable pub ordered : Awaited → List Bracket → List Token → Bool
ordered awaited outer [] = is_at_end awaited outer []
ordered awaited outer (t ∷ ts) = may awaited outer t && ordered (behind t) (opened t outer) ts

-- behind a value no run goes on
separator_ends : (outer : List Bracket) (ts : List Token) → ordered separator outer ts ≡ true → ends_run (spells ts) ≡ true
unfolding ordered
separator_ends outer [] order = refl
separator_ends [] (t ∷ ts) order = let bad : ⊥ = cc in absurd bad
separator_ends (b ∷ outer) (comma ∷ ts) order = refl
separator_ends (b ∷ outer) (closes square ∷ ts) order = refl
separator_ends (b ∷ outer) (closes curly ∷ ts) order = refl
separator_ends (b ∷ outer) (_ ∷ ts) order = let bad : ⊥ = cc in absurd bad

follows_on : (t : Token) (outer : List Bracket) (ts : List Token) → ordered (behind t) (opened t outer) ts ≡ true → Follows t (spells ts)
follows_on (number n) outer ts order = separator_ends outer ts order
follows_on (word w) outer ts order = separator_ends outer ts order
follows_on _ outer ts order = tt

-- ---- a token where it may stand

same_square : (c : Bracket) → same_bracket square c ≡ true → c ≡ square
same_square square same = refl
same_square curly same = let bad : ⊥ = cc in absurd bad

same_curly : (c : Bracket) → same_bracket curly c ≡ true → c ≡ curly
same_curly curly same = refl
same_curly square same = let bad : ⊥ = cc in absurd bad

closes_back : (b c : Bracket) (outer : List Bracket) (r : List ℕ) → same_bracket b c ≡ true → separator_at (b ∷ outer) (spell (closes c) ++ r) ≡ Ok (closes c, r)
closes_back square square outer r same = refl
closes_back curly curly outer r same = refl
closes_back square curly outer r same = let bad : ⊥ = cc in absurd bad
closes_back curly square outer r same = let bad : ⊥ = cc in absurd bad

-- no token that begins a value begins with `]`
element_front : (reg : List Entity) (bytes : List ℕ) (t : Token) (r : List ℕ) → value_at reg bytes ≡ Ok (t, r) → element_at reg bytes ≡ value_at reg bytes
unfolding value_at
element_front reg [] t r reads = refl
element_front reg (c ∷ cs) t r reads = by_close (c == 93) refl
  where
    close_fails : (d : ℕ) (ds : List ℕ) → d ≡ 93 → value_at reg (d ∷ ds) ≡ Err (suc (length ds))
    close_fails d ds is = rw is refl

    by_close : (b : Bool) → (c == 93) ≡ b → element_at reg (c ∷ cs) ≡ value_at reg (c ∷ cs)
    by_close true is =
        let fails = close_fails c cs (eqb-true c 93 is) in
        let both : ◌≡◌ {A = Result (Token × List ℕ) ℕ} (Err (suc (length cs))) (Ok (t, r)) = sym fails ∙ reads in
        let bad : ⊥ = cc in
        absurd bad
    by_close false other = rw other refl

token_back : (reg : List Entity) (awaited : Awaited) (outer : List Bracket) (t : Token) (r : List ℕ) → list_all is_named reg ≡ true
    → may awaited outer t ≡ true → IsToken reg t → Follows t r → token_at reg awaited outer (spell t ++ r) ≡ Ok (t, r)
token_back reg value outer t r named_all is good follows = front_back reg t r named_all is good follows
token_back reg element outer (closes square) r named_all is good follows = refl
token_back reg element outer (closes curly) r named_all is good follows = let bad : ⊥ = cc in absurd bad
token_back reg element outer t r named_all is good follows = let reads = front_back reg t r named_all is good follows in element_front reg (spell t ++ r) t r reads ∙ reads
token_back reg separator [] t r named_all is good follows = let bad : ⊥ = cc in absurd bad
token_back reg separator (b ∷ outer) comma r named_all is good follows = refl
token_back reg separator (b ∷ outer) (closes c) r named_all is good follows = closes_back b c outer r is
token_back reg separator (b ∷ outer) _ r named_all is good follows = let bad : ⊥ = cc in absurd bad

not_whole : (awaited : Awaited) (outer : List Bracket) (t : Token) (bytes : List ℕ) → may awaited outer t ≡ true → is_at_end awaited outer bytes ≡ false
not_whole value outer t bytes is = refl
not_whole element outer t bytes is = refl
not_whole separator [] t bytes is = let bad : ⊥ = cc in absurd bad
not_whole separator (b ∷ outer) t bytes is = refl

-- ---- the tokens of a text

tokens_back : (n : ℕ) (reg : List Entity) (awaited : Awaited) (outer : List Bracket) (ts : List Token) → list_all is_named reg ≡ true → length ts < n
    → ordered awaited outer ts ≡ true → AreTokensOf reg ts
    → (ps : List Placed) × (bare ps ≡ ts) × (tokens_at n reg awaited outer (spells ts) ≡ Ok ps)
unfolding tokens_at ordered
tokens_back zero reg awaited outer ts named_all room order good = let bad : ⊥ = omega arith in absurd bad
tokens_back (suc n) reg awaited outer [] named_all room order good = ([], refl, rw order refl)
tokens_back (suc n) reg awaited outer (t ∷ ts) named_all room order good =
    let parts = and_parts (may awaited outer t) (ordered (behind t) (opened t outer) ts) order in
    let inner = tokens_back n reg (behind t) (opened t outer) ts named_all (omega arith) parts.1 good.1 in
    let p : Placed = record { left = length (spell t ++ spells ts); token = t } in
    let going = not_whole awaited outer t (spell t ++ spells ts) parts.0 in
    let reads = token_back reg awaited outer t (spells ts) named_all parts.0 good.0 (follows_on t outer ts parts.1) in
    (p ∷ inner.0, ap (λ us. t ∷ us) inner.1, step p inner.0 going reads inner.2)
  where
    step : (p : Placed) (qs : List Placed) → is_at_end awaited outer (spell t ++ spells ts) ≡ false
        → token_at reg awaited outer (spell t ++ spells ts) ≡ Ok (t, spells ts) → tokens_at n reg (behind t) (opened t outer) (spells ts) ≡ Ok qs
        → tokens_at (suc n) reg awaited outer (spell t ++ spells ts) ≡ Ok (record { left = length (spell t ++ spells ts); token = t } ∷ qs)
    step p qs going reads inner = rw (going, reads, inner) refl

-- ---- the order of a value's tokens

-- what may stand where a value is awaited may stand where an element is
element_order : (outer : List Bracket) (t : Token) (ts : List Token) → ordered value outer (t ∷ ts) ≡ true → ordered element outer (t ∷ ts) ≡ true
unfolding ordered
element_order outer (closes b) ts order = let bad : ⊥ = cc in absurd bad
element_order outer _ ts order = order

void_or_value : (k : Kind) → is_void k ≡ false → behind_cast k ≡ value
void_or_value kd.void other = let bad : ⊥ = cc in absurd bad
void_or_value _ other = refl

item_order : (outer : List Bracket) (o : Option (List ℕ)) (n : ℤ) (ts : List Token) → ordered separator outer ts ≡ true → ordered value outer (item_token o n ∷ ts) ≡ true
unfolding ordered
item_order outer None n ts order = order
item_order outer (Some w) n ts order = order

ref_order : (outer : List Bracket) (r : Ref) (ts : List Token) → ordered separator outer ts ≡ true → ordered value outer (ref_token r ∷ ts) ≡ true
unfolding ordered
ref_order outer null ts order = order
ref_order outer _ ts order = order

bytes_order : (outer : List Bracket) (bs : List ℕ) (ts : List Token) → ordered separator outer ts ≡ true
    → ordered separator (square ∷ outer) (byte_tokens false bs ++ closes square ∷ ts) ≡ true
unfolding ordered byte_tokens
bytes_order outer [] ts order = order
bytes_order outer (b ∷ bs) ts order = bytes_order outer bs ts order

all_bytes_order : (outer : List Bracket) (bs : List ℕ) (ts : List Token) → ordered separator outer ts ≡ true
    → ordered element (square ∷ outer) (byte_tokens true bs ++ closes square ∷ ts) ≡ true
unfolding ordered byte_tokens
all_bytes_order outer [] ts order = order
all_bytes_order outer (b ∷ bs) ts order = bytes_order outer bs ts order

-- structs and exceptions have members
abbrev pub HaveMembers : List Entity → Type 0
HaveMembers reg = (name : List ℕ) (k : Kind) → IsTupleKind name k → is_type reg k ≡ true → (f : Kind) × (ks : List Kind) × (member_kinds reg name ≡ f ∷ ks)

any_order : (reg : List Entity) (outer : List Bracket) (t : Kind) (x : Plain) (ts : List Token) (b : Bool) → is_void t ≡ b → Fits reg x t
    → ordered value outer (tokens_of reg x ++ ts) ≡ true → ordered separator outer ts ≡ true
    → ordered value outer (tokens_of reg (v.any t x) ++ ts) ≡ true
unfolding ordered tokens_of
any_order reg outer t x ts true is fits inner order =
    let of_void : t ≡ kd.void = void_is t is in
    let empty : x ≡ v.void = void_fits reg x (subst (Fits reg x) of_void fits) in
    let done : behind_cast t ≡ separator = ap behind_cast of_void in
    let one : ordered value outer (cast t ∷ ts) ≡ true = rw done order in
    subst (λ y. ordered value outer (tokens_of reg (v.any t y) ++ ts) ≡ true) (sym empty) one
  where
    void_is : (k : Kind) → is_void k ≡ true → k ≡ kd.void
    void_is kd.void f = refl
    void_is _ f = let bad : ⊥ = cc in absurd bad
any_order reg outer t x ts false other fits inner order =
    let on : behind_cast t ≡ value = void_or_value t other in
    let one : ordered value outer (cast t ∷ (tokens_of reg x ++ ts)) ≡ true = rw on inner in
    subst (λ us. ordered value outer (us ++ ts) ≡ true) (sym (any_tokens reg t x fits other)) one

lift_order : (outer : List Bracket) (us rs : List Token) → Begins us → ordered value outer (us ++ rs) ≡ true → ordered element outer (us ++ rs) ≡ true
lift_order outer us rs b order = subst (λ z. ordered element outer (z ++ rs) ≡ true) (sym b.2) (element_order outer b.0 (b.1 ++ rs) (subst (λ z. ordered value outer (z ++ rs) ≡ true) b.2 order))

no_member : {A : Type 0} (reg : List Entity) (ks : List Kind) (f : Kind) (gs : List Kind) → ks ≡ f ∷ gs → FitEach reg none ks → A
unfolding FitEach
no_member reg ks f gs is fits = absurd (subst (FitEach reg none) is fits)

mutual
  unfolding ordered tokens_of tokens_in Fits FitEach FitAll

  value_order : (reg : List Entity) (outer : List Bracket) (x : Plain) (k : Kind) (ts : List Token) → HaveMembers reg → Fits reg x k
      → ordered separator outer ts ≡ true → ordered value outer (tokens_of reg x ++ ts) ≡ true
  value_order reg outer (v.any t x) k ts have fits order = any_order reg outer t x ts (is_void t) refl fits.3 (value_order reg outer x t ts have fits.3 order) order
  value_order reg outer (v.enum name n) k ts have fits order = item_order outer (first_item (items_of (find_entity name reg)) n) n ts order
  value_order reg outer (v.tuple name vs) k ts have fits order =
      let some = have name k fits.0 fits.1 in
      rw (append_assoc (tokens_in reg true vs) (closes curly ∷ []) ts) (members_order reg outer vs (member_kinds reg name) some.0 some.1 ts have some.2 fits.2 order)
  value_order reg outer (v.list t vs) k ts have fits order = rw (append_assoc (tokens_in reg true vs) (closes square ∷ []) ts) (elements_order reg outer vs t ts have fits.3 order)
  value_order reg outer (v.bytes b) k ts have fits order = rw (append_assoc (byte_tokens true b) (closes square ∷ []) ts) (all_bytes_order outer b ts order)
  value_order reg outer (v.boolean true) k ts have fits order = order
  value_order reg outer (v.boolean false) k ts have fits order = order
  value_order reg outer (v.ref r) k ts have fits order = ref_order outer r ts order
  value_order reg outer _ k ts have fits order = order

  members_order : (reg : List Entity) (outer : List Bracket) (vs : Plains) (ks : List Kind) (f : Kind) (gs : List Kind) (ts : List Token)
      → HaveMembers reg → ks ≡ f ∷ gs → FitEach reg vs ks → ordered separator outer ts ≡ true
      → ordered value (curly ∷ outer) (tokens_in reg true vs ++ closes curly ∷ ts) ≡ true
  members_order reg outer none ks f gs ts have is fits order = no_member reg ks f gs is fits
  members_order reg outer (more x vs) [] f gs ts have is fits order = absurd fits
  members_order reg outer (more x vs) (k ∷ ks) f gs ts have is fits order =
      rw (append_assoc (tokens_of reg x) (tokens_in reg false vs) (closes curly ∷ ts))
      (value_order reg (curly ∷ outer) x k (tokens_in reg false vs ++ closes curly ∷ ts) have fits.0
      (others_order reg outer vs ks ts have fits.1 order))

  others_order : (reg : List Entity) (outer : List Bracket) (vs : Plains) (ks : List Kind) (ts : List Token) → HaveMembers reg → FitEach reg vs ks
      → ordered separator outer ts ≡ true → ordered separator (curly ∷ outer) (tokens_in reg false vs ++ closes curly ∷ ts) ≡ true
  others_order reg outer none ks ts have fits order = order
  others_order reg outer (more x vs) [] ts have fits order = absurd fits
  others_order reg outer (more x vs) (k ∷ ks) ts have fits order =
      rw (append_assoc (tokens_of reg x) (tokens_in reg false vs) (closes curly ∷ ts))
      (value_order reg (curly ∷ outer) x k (tokens_in reg false vs ++ closes curly ∷ ts) have fits.0
      (others_order reg outer vs ks ts have fits.1 order))

  elements_order : (reg : List Entity) (outer : List Bracket) (vs : Plains) (k : Kind) (ts : List Token) → HaveMembers reg → FitAll reg vs k
      → ordered separator outer ts ≡ true → ordered element (square ∷ outer) (tokens_in reg true vs ++ closes square ∷ ts) ≡ true
  elements_order reg outer none k ts have fits order = order
  elements_order reg outer (more x vs) k ts have fits order =
      rw (append_assoc (tokens_of reg x) (tokens_in reg false vs) (closes square ∷ ts))
      (lift_order (square ∷ outer) (tokens_of reg x) (tokens_in reg false vs ++ closes square ∷ ts) (value_begins reg x)
      (value_order reg (square ∷ outer) x k (tokens_in reg false vs ++ closes square ∷ ts) have fits.0
      (more_order reg outer vs k ts have fits.1 order)))

  more_order : (reg : List Entity) (outer : List Bracket) (vs : Plains) (k : Kind) (ts : List Token) → HaveMembers reg → FitAll reg vs k
      → ordered separator outer ts ≡ true → ordered separator (square ∷ outer) (tokens_in reg false vs ++ closes square ∷ ts) ≡ true
  more_order reg outer none k ts have fits order = order
  more_order reg outer (more x vs) k ts have fits order =
      rw (append_assoc (tokens_of reg x) (tokens_in reg false vs) (closes square ∷ ts))
      (value_order reg (square ∷ outer) x k (tokens_in reg false vs ++ closes square ∷ ts) have fits.0
      (more_order reg outer vs k ts have fits.1 order))

-- ---- a sound registry

-- what is found has what all entities have, and the name that was asked
found_passes : (p : Entity → Bool) (es : List Entity) (name : List ℕ) (e : Entity) → list_all p es ≡ true → find_entity name es ≡ Some e → (p e ≡ true) × (e.name ≡ name)
unfolding find_entity
found_passes p [] name e all found = let bad : ⊥ = cc in absurd bad
found_passes p (d ∷ ds) name e all found = by_name (bytes_eq name d.name) refl (found_passes p ds name e (and_parts (p d) (list_all p ds) all).1)
  where
    by_name : (b : Bool) → bytes_eq name d.name ≡ b → (find_entity name ds ≡ Some e → (p e ≡ true) × (e.name ≡ name)) → (p e ≡ true) × (e.name ≡ name)
    by_name true same inner =
        let one : Some d ≡ Some e = rw same at found in
        let is : d ≡ e = cc in
        subst (λ x. (p x ≡ true) × (x.name ≡ name)) is ((and_parts (p d) (list_all p ds) all).0, sym ((bytes_eq-Decides name d.name).0 same))
    by_name false other inner = inner (rw other at found)

some_kinds : (fs : List plain.Field) → is_some_list fs ≡ true → (f : Kind) × (ks : List Kind) × (map (λ (g : plain.Field). g.kind) fs ≡ f ∷ ks)
some_kinds [] some = let bad : ⊥ = cc in absurd bad
some_kinds (f ∷ fs) some = (f.kind, map (λ (g : plain.Field). g.kind) fs, refl)

members_of_entity : (reg : List Entity) (name : List ℕ) (wanted : Body → Bool) → list_all (has_member reg) reg ≡ true
    → ((b : Body) → wanted b ≡ true → (is_struct b || is_exception b) ≡ true) → is_there reg wanted name ≡ true
    → (f : Kind) × (ks : List Kind) × (member_kinds reg name ≡ f ∷ ks)
members_of_entity reg name wanted have carries there = by_find (find_entity name reg) refl
  where
    by_find : (o : Option Entity) → find_entity name reg ≡ o → (f : Kind) × (ks : List Kind) × (member_kinds reg name ≡ f ∷ ks)
    by_find None absent = let bad : false ≡ true = rw absent at there in let worse : ⊥ = cc in absurd worse
    by_find (Some e) found =
        let is : wanted e.body ≡ true = rw found at there in
        let passed = found_passes (has_member reg) reg name e have found in
        let tests : (not (is_struct e.body || is_exception e.body) || is_some_list (all_members reg e.name)) ≡ true = passed.0 in
        let some : is_some_list (all_members reg e.name) ≡ true = rw (carries e.body is) at tests in
        some_kinds (all_members reg name) (subst (λ n. is_some_list (all_members reg n) ≡ true) passed.1 some)

pub sound_members : (reg : List Entity) → IsSound reg → HaveMembers reg
sound_members reg sound name k (inl is) type =
    members_of_entity reg name is_struct sound.members (λ b struct_it. or_left (is_struct b) _ struct_it) (known_of reg (kd.struct name) (subst (λ j. is_type reg j ≡ true) is type))
sound_members reg sound name k (inr is) type =
    members_of_entity reg name is_exception sound.members (λ b exception_it. or_right (is_struct b) (is_exception b) exception_it)
    (known_of reg (kd.exception name) (subst (λ j. is_type reg j ≡ true) is type))

-- ---- an item's name is a known word

word_of_identifier : (w : List ℕ) → is_identifier w ≡ true → is_word w ≡ true
word_of_identifier [] is = is
word_of_identifier (c ∷ cs) is = (and_parts (begins_identifier c && list_all goes_on_identifier cs) _ is).0

item_identifier : (items : List Item) (n : ℤ) (w : List ℕ) → list_all is_identifier (map (λ (i : Item). i.name) items) ≡ true → first_item items n ≡ Some w → is_identifier w ≡ true
unfolding first_item
item_identifier [] n w all found = let bad : ⊥ = cc in absurd bad
item_identifier (i ∷ items) n w all found = by_number (int_eq i.number n) refl (item_identifier items n w (and_parts (is_identifier i.name) _ all).1)
  where
    by_number : (b : Bool) → int_eq i.number n ≡ b → (first_item items n ≡ Some w → is_identifier w ≡ true) → is_identifier w ≡ true
    by_number true same inner = let one : Some i.name ≡ Some w = rw same at found in let is : i.name ≡ w = cc in subst (λ x. is_identifier x ≡ true) is (and_parts (is_identifier i.name) _ all).0
    by_number false other inner = inner (rw other at found)

some_item : (all items : List Item) (n : ℤ) (w : List ℕ) → first_item all n ≡ Some w → first_item items n ≡ Some w
    → list_any (λ (i : Item). bytes_eq i.name w && is_some_name (first_item all i.number) w) items ≡ true
unfolding first_item
some_item all [] n w whole found = let bad : ⊥ = cc in absurd bad
some_item all (i ∷ items) n w whole found = by_number (int_eq i.number n) refl (some_item all items n w whole)
  where
    Inner : Type 0
    Inner = first_item items n ≡ Some w → list_any (λ (j : Item). bytes_eq j.name w && is_some_name (first_item all j.number) w) items ≡ true

    by_number : (b : Bool) → int_eq i.number n ≡ b → Inner → list_any (λ (j : Item). bytes_eq j.name w && is_some_name (first_item all j.number) w) (i ∷ items) ≡ true
    by_number true same inner =
        let number_it : i.number ≡ n = (Decides-int_eq i.number n).0 same in
        let first : first_item all i.number ≡ Some w = ap (first_item all) number_it ∙ whole in
        let passes : is_some_name (first_item all i.number) w ≡ true = ap (λ o. is_some_name o w) first ∙ (bytes_eq-Decides w w).1 refl in
        let one : Some i.name ≡ Some w = rw same at found in
        let it : i.name ≡ w = cc in
        or_left _ _ (and_from (bytes_eq i.name w) _ ((bytes_eq-Decides i.name w).1 it) passes)
    by_number false other inner = or_right (bytes_eq i.name w && is_some_name (first_item all i.number) w) _ (inner (rw other at found))

in_some_enum : (es : List Entity) (name w : List ℕ) (e : Entity) → find_entity name es ≡ Some e → is_first_name (items_of (Some e)) w ≡ true
    → list_any (λ d. is_first_name (items_of (Some d)) w) es ≡ true
unfolding find_entity
in_some_enum [] name w e found is = let bad : ⊥ = cc in absurd bad
in_some_enum (d ∷ ds) name w e found is = by_name (bytes_eq name d.name) refl (in_some_enum ds name w e)
  where
    by_name : (b : Bool) → bytes_eq name d.name ≡ b
        → (find_entity name ds ≡ Some e → is_first_name (items_of (Some e)) w ≡ true → list_any (λ d. is_first_name (items_of (Some d)) w) ds ≡ true)
        → list_any (λ c. is_first_name (items_of (Some c)) w) (d ∷ ds) ≡ true
    by_name true same inner =
        let one : Some d ≡ Some e = rw same at found in
        let it : d ≡ e = cc in
        or_left (is_first_name (items_of (Some d)) w) _ (subst (λ x. is_first_name (items_of (Some x)) w ≡ true) (sym it) is)
    by_name false other inner = or_right (is_first_name (items_of (Some d)) w) _ (inner (rw other at found) is)

names_of_items : (e : Entity) (b : Body) → e.body ≡ b → is_named e ≡ true → list_all is_identifier (map (λ (i : Item). i.name) (items_of (Some e))) ≡ true
names_of_items e (plain.enum items) is named_it = let inner = (and_parts (is_entity_name e.name) (list_all is_identifier (inner_names e.body)) named_it).1 in rw is (rw is at inner)
names_of_items e _ is named_it = rw is refl

item_known : (reg : List Entity) (name : List ℕ) (n : ℤ) (w : List ℕ) → list_all is_named reg ≡ true
    → first_item (items_of (find_entity name reg)) n ≡ Some w → IsToken reg (word w)
unfolding first_item
item_known reg name n w named_all found = by_find (find_entity name reg) refl
  where
    by_find : (o : Option Entity) → find_entity name reg ≡ o → IsToken reg (word w)
    by_find None absent = let bad : None ≡ Some w = rw absent at found in let worse : ⊥ = cc in absurd worse
    by_find (Some e) there =
        let first : first_item (items_of (Some e)) n ≡ Some w = rw there at found in
        let passed = found_passes is_named reg name e named_all there in
        let identifier = item_identifier (items_of (Some e)) n w (names_of_items e e.body refl passed.0) first in
        let known = in_some_enum reg name w e there (some_item (items_of (Some e)) (items_of (Some e)) n w first first) in
        (word_of_identifier w identifier, or_right (is_own_word w) _ known)

-- ---- the tokens of a value are those of the registry

tokens_append : (reg : List Entity) (ts us : List Token) → AreTokensOf reg ts → AreTokensOf reg us → AreTokensOf reg (ts ++ us)
tokens_append reg [] us good others = others
tokens_append reg (t ∷ ts) us good others = (good.0, tokens_append reg ts us good.1 others)

comma_good : (reg : List Entity) (is_first : Bool) → AreTokensOf reg (comma_tokens is_first)
comma_good reg true = tt
comma_good reg false = (tt, tt)

range_fits : (w : Width) (z : ℤ) → 2 ^ hbits w ≤ 2 ^ 63 → FitsSigned w z → NumberFits z
range_fits w (pos n) few small = omega (arith, small.sfits)
range_fits w (negsuc n) few small = omega (arith, small.sfits)

item_good : (reg : List Entity) (name : List ℕ) (n : ℤ) → list_all is_named reg ≡ true → FitsSigned w32 n → IsToken reg (item_token (first_item (items_of (find_entity name reg)) n) n)
item_good reg name n named_all spellable = by_item (first_item (items_of (find_entity name reg)) n) refl
  where
    by_item : (o : Option (List ℕ)) → first_item (items_of (find_entity name reg)) n ≡ o → IsToken reg (item_token o n)
    by_item None absent = range_fits w32 n (omega arith) spellable
    by_item (Some w) found = item_known reg name n w named_all found

bytes_good : (reg : List Entity) (is_first : Bool) (bs : List ℕ) → AreBytes bs → AreTokensOf reg (byte_tokens is_first bs)
unfolding byte_tokens
bytes_good reg is_first [] all = tt
bytes_good reg is_first (b ∷ bs) all =
    tokens_append reg (comma_tokens is_first) _ (comma_good reg is_first) (
      range_fits w8 (cast_signed w8 b) (omega arith) (signed_range b (all 0)),
      bytes_good reg false bs (λ i. all (suc i)),
    )

any_good : (reg : List Entity) (t : Kind) (x : Plain) (b : Bool) → is_void t ≡ b → t ≢ kd.any → is_type reg t ≡ true → Fits reg x t
    → AreTokensOf reg (tokens_of reg x) → AreTokensOf reg (tokens_of reg (v.any t x))
unfolding tokens_of
any_good reg t x true is other type fits inner =
    let empty : x ≡ v.void = void_fits reg x (subst (Fits reg x) (void_is t is) fits) in
    subst (λ y. AreTokensOf reg (tokens_of reg (v.any t y))) (sym empty) ((type, other), tt)
  where
    void_is : (k : Kind) → is_void k ≡ true → k ≡ kd.void
    void_is kd.void f = refl
    void_is _ f = let bad : ⊥ = cc in absurd bad
any_good reg t x false some other type fits inner = subst (AreTokensOf reg) (sym (any_tokens reg t x fits some)) ((type, other), inner)

mutual
  unfolding tokens_of tokens_in Fits FitEach FitAll IsSpellable AreSpellable refs refs_in

  value_good : (reg : List Entity) (x : Plain) (k : Kind) → list_all is_named reg ≡ true → Fits reg x k → refs x ≡ [] → IsSpellable x → AreTokensOf reg (tokens_of reg x)
  value_good reg v.void k named_all fits closed spellable = ((refl, refl), tt)
  value_good reg (v.char n) k named_all fits closed spellable = (omega (arith, spellable), tt)
  value_good reg (v.boolean true) k named_all fits closed spellable = ((refl, refl), tt)
  value_good reg (v.boolean false) k named_all fits closed spellable = ((refl, refl), tt)
  value_good reg (v.byte n) k named_all fits closed spellable = (range_fits w8 n (omega arith) spellable, tt)
  value_good reg (v.short n) k named_all fits closed spellable = (range_fits w16 n (omega arith) spellable, tt)
  value_good reg (v.unsigned_short n) k named_all fits closed spellable = (omega (arith, spellable), tt)
  value_good reg (v.long n) k named_all fits closed spellable = (range_fits w32 n (omega arith) spellable, tt)
  value_good reg (v.unsigned_long n) k named_all fits closed spellable = (omega (arith, spellable), tt)
  value_good reg (v.hyper n) k named_all fits closed spellable = (range_fits w64 n (omega arith) spellable, tt)
  value_good reg (v.unsigned_hyper n) k named_all fits closed spellable = (omega (arith, spellable), tt)
  value_good reg (v.str s) k named_all fits closed spellable = (tt, tt)
  value_good reg (v.kind t) k named_all fits closed spellable = (fits.1, tt)
  value_good reg (v.any t x) k named_all fits closed spellable = any_good reg t x (is_void t) refl fits.1 fits.2 fits.3 (value_good reg x t named_all fits.3 closed spellable)
  value_good reg (v.enum name n) k named_all fits closed spellable = (item_good reg name n named_all spellable, tt)
  value_good reg (v.tuple name vs) k named_all fits closed spellable = (
    tt,
    tokens_append reg (tokens_in reg true vs) (closes curly ∷ []) (members_good reg true vs (member_kinds reg name) named_all fits.2 closed spellable)
        (tt, tt),
  )
  value_good reg (v.list t vs) k named_all fits closed spellable = (tt, tokens_append reg (tokens_in reg true vs) (closes square ∷ []) (elements_good reg true vs t named_all fits.3 closed spellable) (tt, tt))
  value_good reg (v.bytes b) k named_all fits closed spellable = (tt, tokens_append reg (byte_tokens true b) (closes square ∷ []) (bytes_good reg true b spellable) (tt, tt))
  value_good reg (v.ref null) k named_all fits closed spellable = ((refl, refl), tt)
  value_good reg (v.ref (own oid face)) k named_all fits closed spellable = let bad : ⊥ = cc in absurd bad
  value_good reg (v.ref (peer oid face)) k named_all fits closed spellable = let bad : ⊥ = cc in absurd bad

  members_good : (reg : List Entity) (is_first : Bool) (vs : Plains) (ks : List Kind) → list_all is_named reg ≡ true → FitEach reg vs ks → refs_in vs ≡ [] → AreSpellable vs
      → AreTokensOf reg (tokens_in reg is_first vs)
  members_good reg is_first none ks named_all fits closed spellable = tt
  members_good reg is_first (more x vs) [] named_all fits closed spellable = absurd fits
  members_good reg is_first (more x vs) (k ∷ ks) named_all fits closed spellable =
      let parts = append_none (refs x) (refs_in vs) closed in
      tokens_append reg (comma_tokens is_first) _ (comma_good reg is_first)
      (tokens_append reg (tokens_of reg x) _ (value_good reg x k named_all fits.0 parts.0 spellable.0)
      (members_good reg false vs ks named_all fits.1 parts.1 spellable.1))

  elements_good : (reg : List Entity) (is_first : Bool) (vs : Plains) (k : Kind) → list_all is_named reg ≡ true → FitAll reg vs k → refs_in vs ≡ [] → AreSpellable vs
      → AreTokensOf reg (tokens_in reg is_first vs)
  elements_good reg is_first none k named_all fits closed spellable = tt
  elements_good reg is_first (more x vs) k named_all fits closed spellable =
      let parts = append_none (refs x) (refs_in vs) closed in
      tokens_append reg (comma_tokens is_first) _ (comma_good reg is_first)
      (tokens_append reg (tokens_of reg x) _ (value_good reg x k named_all fits.0 parts.0 spellable.0)
      (elements_good reg false vs k named_all fits.1 parts.1 spellable.1))

-- ---- the whole text

token_spelled : (reg : List Entity) (t : Token) → IsToken reg t → 1 ≤ length (spell t)
token_spelled reg (opens square) good = omega arith
token_spelled reg (opens curly) good = omega arith
token_spelled reg (closes square) good = omega arith
token_spelled reg (closes curly) good = omega arith
token_spelled reg (number (pos n)) good = decimal_nonempty n (omega arith)
token_spelled reg (word []) good = let bad : ⊥ = both_ways false refl good.0 in absurd bad
token_spelled reg (word (c ∷ cs)) good = omega arith
token_spelled reg (object oid face) good = absurd good
token_spelled reg _ good = omega arith

no_more_tokens : (reg : List Entity) (ts : List Token) → AreTokensOf reg ts → length ts ≤ length (spells ts)
no_more_tokens reg [] good = omega arith
no_more_tokens reg (t ∷ ts) good =
    let one = token_spelled reg t good.0 in
    let others = no_more_tokens reg ts good.1 in
    let both = length-append (spell t) (spells ts) in
    omega (arith, one, others, both)

-- the literal of a value that fits is cut into its tokens
pub literal_tokens : (reg : List Entity) (x : Plain) (k : Kind) → IsSound reg → Fits reg x k → refs x ≡ [] → IsSpellable x
    → (ps : List Placed) × (bare ps ≡ tokens_of reg x) × (judge reg (print reg x) ≡ Ok ps)
unfolding ordered
literal_tokens reg x k sound fits closed spellable =
    let good = value_good reg x k sound.named fits closed spellable in
    let order : ordered value [] (tokens_of reg x) ≡ true = subst (λ us. ordered value [] us ≡ true) (append-nil (tokens_of reg x)) (value_order reg [] x k [] (sound_members reg sound) fits refl) in
    let few = no_more_tokens reg (tokens_of reg x) good in
    let at = tokens_back (suc (length (spells (tokens_of reg x)))) reg value [] (tokens_of reg x) sound.named (omega (arith, few)) order good in
    at
