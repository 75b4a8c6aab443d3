-- Which bytes spell a value: a relation by cases on the type, between the tables before, the value, its bytes and the tables after.
use Rattle.std.specs.Prelude.{◌≡◌, ◌≢◌, ℕ, zero, suc, ◌+◌, ◌<◌, ◌≤◌, ◌⊎◌, Bool, true, false, IsTrue, List, [], ◌∷◌, ◌++◌, length, Option, None, Some}
use Rattle.std.specs.Int.{Width, w8, w16, w32, w64, byte_len, from_be_bytes, cast_signed}
use Rattle.std.specs.Str.{IsUtf8}
use Rattle.uno_model.specs.Entities.{Entity}
use Rattle.uno_model.specs.Fits.{member_kinds}
use Rattle.uno_model.specs.Kinds.{Kind, name_of}
use Rattle.uno_model.specs.Kinds as kd
use Rattle.uno_model.specs.TypeClasses.{class_code, class_of}
use Rattle.uno_model.specs.Types.{is_type}
use Rattle.uno_model.specs.Values.{Plain, plains}
use Rattle.uno_model.specs.Values as plain
use Rattle.urp_model.specs.NamedKinds.{is_simple, is_byte}
use Rattle.urp_model.specs.Reading.{ref_of}
use Rattle.urp_model.specs.Tables.{Table, Tables, meaning, noted, with_types, with_oids}

-- ---- parts

-- a number in so many bytes, the high byte first
abbrev pub IsNumber : Width → List ℕ → ℕ → Type 0
IsNumber w b n = (length b ≡ byte_len w) × (n ≡ from_be_bytes w b)

-- a compressed number: one byte that is not FF, or FF and four bytes
abbrev pub IsLength : List ℕ → ℕ → Type 0
IsLength b n = ((n ≢ 255) × (b ≡ n ∷ [])) ⊎ ((four : List ℕ) × (b ≡ 255 ∷ four) × IsNumber w32 four n)

-- the length of some bytes, and those bytes
abbrev pub IsRaw : List ℕ → List ℕ → Type 0
IsRaw b raw = (p : List ℕ) × (b ≡ p ++ raw) × IsLength p (length raw)

-- a text
abbrev pub IsText : List ℕ → List ℕ → Type 0
IsText b text = IsRaw b text × IsUtf8 text

-- the name of a type or of an object
abbrev pub IsTextName : List ℕ → List ℕ → Type 0
IsTextName b name = IsText b name × (length name ≤ 4096)

-- the name of a thread
abbrev pub IsThreadName : List ℕ → List ℕ → Type 0
IsThreadName b name = IsRaw b name × (length name ≤ 1024)

-- one of the 256 slots, or 65,535 for none, in two bytes
abbrev pub IsSlot : List ℕ → ℕ → Type 0
IsSlot b slot = IsNumber w16 b slot × ((slot < 256) ⊎ (slot ≡ 65535))

-- ---- names with their slots

-- a type of the registry: a simple one is its class; another one its class and the slot that means its name, or its class with 80 set, a slot and its name
pub data SpellsKind (reg : List Entity) (table : Table) (k : Kind) (b : List ℕ) (after : Table) : Type 0 where
  simple : is_simple k ≡ true → b ≡ class_code (class_of k) ∷ [] → after ≡ table → SpellsKind reg table k b after
  held : (q : List ℕ) (slot : ℕ) → is_simple k ≡ false → IsTrue (is_type reg k) → b ≡ class_code (class_of k) ∷ q → IsSlot q slot
      → meaning slot table ≡ Some (name_of k) → after ≡ table → SpellsKind reg table k b after
  written : (q p : List ℕ) (slot : ℕ) → is_simple k ≡ false → IsTrue (is_type reg k) → b ≡ (class_code (class_of k) + 128) ∷ (q ++ p) → IsSlot q slot
      → IsTextName p (name_of k) → after ≡ noted slot (name_of k) table → SpellsKind reg table k b after

-- a name and its slot: the empty name and the slot that means it, or the name, which the slot means from now on
pub data SpellsName (IsName : List ℕ → List ℕ → Type 0) (table : Table) (name b : List ℕ) (after : Table) : Type 0 where
  held : (p q : List ℕ) (slot : ℕ) → b ≡ p ++ q → IsName p [] → IsSlot q slot → meaning slot table ≡ Some name → after ≡ table
      → SpellsName IsName table name b after
  written : (p q : List ℕ) (slot : ℕ) → name ≢ [] → b ≡ p ++ q → IsName p name → IsSlot q slot → after ≡ noted slot name table
      → SpellsName IsName table name b after

-- the identity of a thread
abbrev pub SpellsTid : Table → List ℕ → List ℕ → Table → Type 0
SpellsTid = SpellsName IsThreadName

-- the identity of an object, which is a text, or no object: the empty text and 65,535
abbrev pub SpellsOid : Table → Option (List ℕ) → List ℕ → Table → Type 0
SpellsOid table None b after = (p : List ℕ) × (q : List ℕ) × (b ≡ p ++ q) × IsTextName p [] × IsNumber w16 q 65535 × (after ≡ table)
SpellsOid table (Some oid) b after = SpellsName IsTextName table oid b after × IsUtf8 oid

-- ---- values

-- what is said of the tables before, a value, its bytes and the tables after
abbrev pub Spelled : Type 1
Spelled = Tables → Plain → List ℕ → Tables → Type 0

-- values one after the other
unfoldable pub SpellsAll : Spelled → Tables → List Plain → List ℕ → Tables → Type 0
SpellsAll S s [] b t = (b ≡ []) × (t ≡ s)
SpellsAll S s (x ∷ xs) b t = (p : List ℕ) × (q : List ℕ) × (u : Tables) × (b ≡ p ++ q) × S s x p u × SpellsAll S u xs q t

-- a value of each of these types
unfoldable pub SpellsEach : (Kind → Spelled) → List Kind → Tables → List Plain → List ℕ → Tables → Type 0
SpellsEach S [] s xs b t = (xs ≡ []) × (b ≡ []) × (t ≡ s)
SpellsEach S (k ∷ ks) s xs b t =
    (y : Plain) × (ys : List Plain) × (p : List ℕ) × (q : List ℕ) × (u : Tables) × (xs ≡ y ∷ ys) × (b ≡ p ++ q) × S k s y p u × SpellsEach S ks u ys q t

-- a sequence of bytes: their count, and the bytes
abbrev pub SpellsBytes : Spelled
SpellsBytes s x b t = (raw : List ℕ) × (x ≡ plain.bytes raw) × IsRaw b raw × (t ≡ s)

-- any other sequence: the count, and each element
abbrev pub SpellsList : Spelled → Kind → Spelled
SpellsList S k s x b t =
    (vs : List Plain) × (p : List ℕ) × (q : List ℕ) × (x ≡ plain.list k (plains vs)) × (b ≡ p ++ q) × IsLength p (length vs) × SpellsAll S s vs q t

-- a sequence, by whether its elements are bytes
abbrev pub SpellsSequence : Bool → Spelled → Kind → Spelled
SpellsSequence true S k = SpellsBytes
SpellsSequence false S k = SpellsList S k

-- the members of a struct or an exception, those of its base first
abbrev pub SpellsTuple : (Kind → Spelled) → List Kind → List ℕ → Spelled
SpellsTuple S ks name s x b t = (vs : List Plain) × (x ≡ plain.tuple name (plains vs)) × SpellsEach S ks s vs b t

-- a value, where S spells the values one level further in
unfoldable pub SpellsStep : List Entity → (Kind → Spelled) → Kind → Spelled
SpellsStep reg S kd.void s x b t = (x ≡ plain.void) × (b ≡ []) × (t ≡ s)
SpellsStep reg S kd.char s x b t = (n : ℕ) × (x ≡ plain.char n) × IsNumber w16 b n × (t ≡ s)
SpellsStep reg S kd.boolean s x b t = (((x ≡ plain.boolean false) × (b ≡ 0 ∷ [])) ⊎ ((x ≡ plain.boolean true) × (b ≡ 1 ∷ []))) × (t ≡ s)
SpellsStep reg S kd.byte s x b t = (n : ℕ) × (x ≡ plain.byte (cast_signed w8 n)) × (b ≡ n ∷ []) × (t ≡ s)
SpellsStep reg S kd.short s x b t = (n : ℕ) × (x ≡ plain.short (cast_signed w16 n)) × IsNumber w16 b n × (t ≡ s)
SpellsStep reg S kd.unsigned_short s x b t = (n : ℕ) × (x ≡ plain.unsigned_short n) × IsNumber w16 b n × (t ≡ s)
SpellsStep reg S kd.long s x b t = (n : ℕ) × (x ≡ plain.long (cast_signed w32 n)) × IsNumber w32 b n × (t ≡ s)
SpellsStep reg S kd.unsigned_long s x b t = (n : ℕ) × (x ≡ plain.unsigned_long n) × IsNumber w32 b n × (t ≡ s)
SpellsStep reg S kd.hyper s x b t = (n : ℕ) × (x ≡ plain.hyper (cast_signed w64 n)) × IsNumber w64 b n × (t ≡ s)
SpellsStep reg S kd.unsigned_hyper s x b t = (n : ℕ) × (x ≡ plain.unsigned_hyper n) × IsNumber w64 b n × (t ≡ s)
SpellsStep reg S kd.str s x b t = (y : List ℕ) × (x ≡ plain.str y) × IsText b y × (t ≡ s)
SpellsStep reg S kd.kind s x b t = (k : Kind) × (after : Table) × (x ≡ plain.kind k) × SpellsKind reg s.types k b after × (t ≡ with_types s after)
SpellsStep reg S kd.any s x b t =
    (k : Kind) × (v : Plain) × (p : List ℕ) × (q : List ℕ) × (after : Table) × (x ≡ plain.any k v) × (b ≡ p ++ q) × SpellsKind reg s.types k p after × (k ≢ kd.any)
    × S k (with_types s after) v q t
SpellsStep reg S (kd.enum name) s x b t = (n : ℕ) × (x ≡ plain.enum name (cast_signed w32 n)) × IsNumber w32 b n × (t ≡ s)
SpellsStep reg S (kd.struct name) s x b t = SpellsTuple S (member_kinds reg name) name s x b t
SpellsStep reg S (kd.exception name) s x b t = SpellsTuple S (member_kinds reg name) name s x b t
SpellsStep reg S (kd.interface face) s x b t =
    (oid : Option (List ℕ)) × (after : Table) × (x ≡ plain.ref (ref_of oid face)) × SpellsOid s.oids oid b after × (t ≡ with_oids s after)
SpellsStep reg S (kd.sequence k) s x b t = SpellsSequence (is_byte k) (S k) k s x b t

-- a value of a type, of which at most so many levels stand in one another
unfoldable pub Spells : ℕ → List Entity → Kind → Spelled
Spells zero reg k s x b t = ⊥
Spells (suc levels) reg k s x b t = SpellsStep reg (Spells levels reg) k s x b t
