-- The parts and names that a sender writes spell what they are to say.
use Rattle.std.proofs.Common.{◌≡◌, ◌≢◌, ℕ, ℤ, ◌^◌, ◌<◌, ◌≤◌, nat_lt, Bool, true, false, List, [], ◌∷◌, ◌++◌}
use Rattle.std.proofs.Common.{length, Some, refl, sym, inl, inr, if◌then◌else◌, arith, FitsSigned}
use Rattle.std.specs.List.{list_all}
use Rattle.std.specs.Int.{w16, w32, w64, to_be_bytes, cast_unsigned}
use Rattle.std.specs.Str.{IsUtf8}
use Rattle.std.proofs.lemmas.Bool.{ltb-true, leb-true, and_parts}
use Rattle.std.proofs.lemmas.Int.{ints}
use Rattle.std.proofs.lemmas.Nat.{from_be_bytes-to_be_bytes_2, from_be_bytes-to_be_bytes_4, from_be_bytes-to_be_bytes_8}
use Rattle.std.proofs.lemmas.Str.{IsUtf8-nil}
use Rattle.uno_model.specs.Entities.{Entity}
use Rattle.uno_model.specs.Kinds.{Kind, name_of}
use Rattle.uno_model.specs.Sound.{is_named, kind_known, is_namable}
use Rattle.uno_model.specs.TypeClasses.{class_code, class_of}
use Rattle.uno_model.specs.Types.{is_formed, is_type}
use Rattle.urp_model.specs.Carried.{Corresponds}
use Rattle.urp_model.specs.Held.{holds, slot_for, used}
use Rattle.urp_model.specs.NamedKinds.{is_simple}
use Rattle.urp_model.specs.Spelling.{IsNumber, IsLength, IsRaw, IsText, IsTextName, IsThreadName, IsSlot, SpellsKind, simple, SpellsName, SpellsOid}
use Rattle.urp_model.specs.Spelling as spell
use Rattle.urp_model.specs.Tables.{Table, noted}
use Rattle.urp_model.specs.Writing.{Names, compressed, measured, slot_bytes, kind_written, kind_spelling, kind_after, name_spelling}
use Rattle.urp_model.proofs.CorrespondLaws.{slot_below, held_meant, held_goes_on, new_goes_on}
use Rattle.urp_model.proofs.Utf8Laws.{name_ascii, utf8_of_ascii}

-- ---- numbers

pub number_2 : (n : ℕ) → n < 2 ^ 16 → IsNumber w16 (to_be_bytes w16 n) n
number_2 n low = (refl, sym (from_be_bytes-to_be_bytes_2 n low))

pub number_4 : (n : ℕ) → n < 2 ^ 32 → IsNumber w32 (to_be_bytes w32 n) n
number_4 n low = (refl, sym (from_be_bytes-to_be_bytes_4 n low))

pub number_8 : (n : ℕ) → n < 2 ^ 64 → IsNumber w64 (to_be_bytes w64 n) n
number_8 n low = (refl, sym (from_be_bytes-to_be_bytes_8 n low))

pub signed_2 : (z : ℤ) → FitsSigned w16 z → cast_unsigned w16 z < 2 ^ 16
signed_2 z fits = omega (arith, ints)

pub signed_4 : (z : ℤ) → FitsSigned w32 z → cast_unsigned w32 z < 2 ^ 32
signed_4 z fits = omega (arith, ints)

pub signed_8 : (z : ℤ) → FitsSigned w64 z → cast_unsigned w64 z < 2 ^ 64
signed_8 z fits = omega (arith, ints)

-- ---- lengths, texts and slots

pub compressed_is : (n : ℕ) → n < 2 ^ 32 → IsLength (compressed n) n
unfolding compressed
compressed_is n low = by_test (nat_lt n 255) refl
  where
    by_test : (t : Bool) → nat_lt n 255 ≡ t → IsLength (if t then n ∷ [] else 255 ∷ to_be_bytes w32 n) n
    by_test true small = let below : n < 255 = ltb-true n 255 small in inl (λ is. omega arith, refl)
    by_test false large = inr (to_be_bytes w32 n, refl, number_4 n low)

pub measured_is : (raw : List ℕ) → length raw < 2 ^ 32 → IsRaw (measured raw) raw
unfolding measured
measured_is raw low = (compressed (length raw), refl, compressed_is (length raw) low)

pub text_name_is : (name : List ℕ) → length name ≤ 4096 → IsUtf8 name → IsTextName (measured name) name
text_name_is name short text = ((measured_is name (omega arith), text), short)

pub no_name_is : IsTextName (0 ∷ []) []
no_name_is = (((0 ∷ [], refl, inl ((λ is. omega arith), refl)), IsUtf8-nil), omega arith)

slot_is : (slot : ℕ) → slot < 256 → IsSlot (slot_bytes slot) slot
unfolding slot_bytes
slot_is slot low = (number_2 slot (omega arith), inl low)

-- ---- types

-- a type as it is written, and that the reader's table goes on to answer
abbrev pub KindCarried : List Entity → Table → Kind → List ℕ → Names → Type 0
KindCarried reg table k b held = (after : Table) × SpellsKind reg table k b after × Corresponds after held

module _ (reg : List Entity) (table : Table) (k : Kind) (held : Names) (named : list_all is_named reg ≡ true) (is : is_type reg k ≡ true) (c : Corresponds table held) where
  held_kind : is_simple k ≡ false → holds (name_of k) held ≡ true
      → KindCarried reg table k (class_code (class_of k) ∷ slot_bytes (slot_for (name_of k) held)) (used (name_of k) held)
  held_kind other there =
      let name = name_of k in (
        table,
        spell.held (slot_bytes (slot_for name held)) (slot_for name held) other is refl (slot_is (slot_for name held) (slot_below held c.uses name c.stands)) (held_meant table held name c there) refl,
        held_goes_on table held name c there,
      )

  name_short : length (name_of k) ≤ 4096
  name_short = leb-true (length (name_of k)) 4096 (and_parts _ _ (and_parts (is_formed reg k) (is_namable k) is).1).0

  name_text : IsUtf8 (name_of k)
  name_text = utf8_of_ascii (name_of k) (name_ascii reg k named (and_parts (kind_known reg k) _ (and_parts (is_formed reg k) (is_namable k) is).0).0)

  new_kind : is_simple k ≡ false → KindCarried reg table k (kind_written k (slot_for (name_of k) held)) (used (name_of k) held)
  unfolding kind_written
  new_kind other =
      let name = name_of k in
      let slot = slot_for name held in (
        noted slot name table,
        spell.written (slot_bytes slot) (measured name) slot other is refl (slot_is slot (slot_below held c.uses name c.stands)) (text_name_is name name_short name_text) refl,
        new_goes_on table held name c,
      )

  pub kind_is : KindCarried reg table k (kind_spelling k held) (kind_after k held)
  unfolding kind_spelling kind_after
  kind_is = by_simple (is_simple k) refl
    where
      by_held : (t : Bool) → is_simple k ≡ false → holds (name_of k) held ≡ t
          → KindCarried reg table k (if t then class_code (class_of k) ∷ slot_bytes (slot_for (name_of k) held) else kind_written k (slot_for (name_of k) held)) (used (name_of k) held)
      by_held true other there = held_kind other there
      by_held false other absent = new_kind other

      by_simple : (t : Bool) → is_simple k ≡ t
          → KindCarried reg table k (if t then class_code (class_of k) ∷ [] else
          (if holds (name_of k) held then class_code (class_of k) ∷ slot_bytes (slot_for (name_of k) held) else kind_written k
          (slot_for (name_of k) held)))
          (if t then held else used (name_of k) held)
      by_simple true yes_ = (table, simple yes_ refl refl, c)
      by_simple false other = by_held (holds (name_of k) held) other refl

-- ---- objects and threads

-- a name as it is written, and that the reader's table goes on to answer
abbrev pub NameCarried : (List ℕ → List ℕ → Type 0) → Table → List ℕ → List ℕ → Names → Type 0
NameCarried IsName table name b held = (after : Table) × SpellsName IsName table name b after × Corresponds after held

module _ (IsName : List ℕ → List ℕ → Type 0) (nothing : IsName (0 ∷ []) []) (table : Table) (name : List ℕ) (held : Names) (c : Corresponds table held) where
  pub name_is : name ≢ [] → IsName (measured name) name → NameCarried IsName table name (name_spelling name held) (used name held)
  unfolding name_spelling
  name_is some itself = by_held (holds name held) refl
    where
      slot : ℕ
      slot = slot_for name held

      slot_fits : IsSlot (slot_bytes slot) slot
      slot_fits = slot_is slot (slot_below held c.uses name c.stands)

      by_held : (t : Bool) → holds name held ≡ t → NameCarried IsName table name ((if t then 0 ∷ [] else measured name) ++ slot_bytes slot) (used name held)
      by_held true there = (table, spell.held (0 ∷ []) (slot_bytes slot) slot refl nothing slot_fits (held_meant table held name c there) refl, held_goes_on table held name c there)
      by_held false absent = (noted slot name table, spell.written (measured name) (slot_bytes slot) slot some refl itself slot_fits refl, new_goes_on table held name c)

some_name : (name : List ℕ) → 1 ≤ length name → name ≢ []
some_name [] some empty = omega arith
some_name (b ∷ name) some empty = cc

-- the identity of an object, and of a thread
pub oid_is : (oid : List ℕ) (table : Table) (held : Names) → 1 ≤ length oid → length oid ≤ 4096 → IsUtf8 oid → Corresponds table held
    → (after : Table) × SpellsOid table (Some oid) (name_spelling oid held) after × Corresponds after (used oid held)
oid_is oid table held some short text c =
    let named = name_is IsTextName no_name_is table oid held c (some_name oid some) (text_name_is oid short text) in
    (named.0, (named.1, text), named.2)

pub tid_is : (tid : List ℕ) (table : Table) (held : Names) → 1 ≤ length tid → length tid ≤ 1024 → Corresponds table held
    → NameCarried IsThreadName table tid (name_spelling tid held) (used tid held)
tid_is tid table held some short c =
    name_is IsThreadName ((0 ∷ [], refl, inl ((λ is. omega arith), refl)), omega arith) table tid held c (some_name tid some) (measured_is tid (omega arith), short)
