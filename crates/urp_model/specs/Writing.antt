-- The one spelling that a sender chooses: numbers are short where they can be, and a name that is held is its slot; and what it holds afterwards.
use Rattle.std.specs.Prelude.{ℕ, ◌+◌, nat_lt, List, [], ◌∷◌, ◌++◌, length, if◌then◌else◌}
use Rattle.std.specs.Int.{w8, w16, w32, w64, to_be_bytes, cast_unsigned, from_bool}
use Rattle.uno_model.specs.Kinds.{Kind, name_of}
use Rattle.uno_model.specs.TypeClasses.{class_code, class_of}
use Rattle.uno_model.specs.Values.{Ref, null, own, peer, Plain, Plains, void, char, boolean, byte, short, unsigned_short, long}
use Rattle.uno_model.specs.Values.{unsigned_long, hyper, unsigned_hyper, str, kind, any, enum, tuple, list, bytes, ref, none, more}
use Rattle.uno_model.specs.Weights.{count}
use Rattle.urp_model.specs.Held.{holds, slot_for, used}
use Rattle.urp_model.specs.NamedKinds.{is_simple}

-- names with their slots, the one that was used last first
abbrev pub Names : Type 0
Names = List (List ℕ × ℕ)

-- what a sender holds in one direction: the names of types, the identities of objects, and those of threads
pub record HeldNames : Type 0 where
  pub types : Names
  pub oids : Names
  pub tids : Names

-- what is held before any use
unfoldable pub no_names : HeldNames
no_names = record { types = []; oids = []; tids = [] }

-- what is held with other names of types
abbrev pub holding_types : HeldNames → Names → HeldNames
holding_types h names = record { types = names; oids = h.oids; tids = h.tids }

-- with other names of objects
abbrev pub holding_oids : HeldNames → Names → HeldNames
holding_oids h names = record { types = h.types; oids = names; tids = h.tids }

-- with other names of threads
abbrev pub holding_tids : HeldNames → Names → HeldNames
holding_tids h names = record { types = h.types; oids = h.oids; tids = names }

-- ---- parts

-- a compressed number: one byte where it is below 255, and else FF and four
unfoldable pub compressed : ℕ → List ℕ
compressed n = if nat_lt n 255 then n ∷ [] else 255 ∷ to_be_bytes w32 n

-- a length, and the bytes
unfoldable pub measured : List ℕ → List ℕ
measured raw = compressed (length raw) ++ raw

-- a slot
unfoldable pub slot_bytes : ℕ → List ℕ
slot_bytes slot = to_be_bytes w16 slot

-- a class byte with the mark of a name that is written out, the slot and the name
unfoldable pub kind_written : Kind → ℕ → List ℕ
kind_written k slot = (class_code (class_of k) + 128) ∷ (slot_bytes slot ++ measured (name_of k))

-- a type: its class where it is simple; a class and the slot of a name that is held; or all of it
unfoldable pub kind_spelling : Kind → Names → List ℕ
kind_spelling k held =
    if is_simple k then class_code (class_of k) ∷ []
    else (if holds (name_of k) held then class_code (class_of k) ∷ slot_bytes (slot_for (name_of k) held) else kind_written k (slot_for (name_of k) held))

-- what is held after a type: a simple one uses no slot
unfoldable pub kind_after : Kind → Names → Names
kind_after k held = if is_simple k then held else used (name_of k) held

-- the identity of an object or of a thread: an empty name where it is held, or the name; and its slot
unfoldable pub name_spelling : List ℕ → Names → List ℕ
name_spelling name held = (if holds name held then 0 ∷ [] else measured name) ++ slot_bytes (slot_for name held)

-- a reference: its object, or the empty name and FFFF
abbrev pub ref_spelling : Ref → Names → List ℕ
ref_spelling null held = 0 ∷ 255 ∷ 255 ∷ []
ref_spelling (own oid face) held = name_spelling oid held
ref_spelling (peer oid face) held = name_spelling oid held

-- what is held after a reference: null uses no slot
abbrev pub ref_after : Ref → Names → Names
ref_after null held = held
ref_after (own oid face) held = used oid held
ref_after (peer oid face) held = used oid held

-- ---- values

-- what is held after a value
unfoldable mutual
  pub after : Plain → HeldNames → HeldNames
  after (kind k) h = holding_types h (kind_after k h.types)
  after (any k v) h = after v (holding_types h (kind_after k h.types))
  after (tuple name vs) h = afters vs h
  after (list k vs) h = afters vs h
  after (ref r) h = holding_oids h (ref_after r h.oids)
  after _ h = h

  pub afters : Plains → HeldNames → HeldNames
  afters none h = h
  afters (more v vs) h = afters vs (after v h)

-- the bytes of a value; neither a registry nor the type of its place is needed, since the face of an object is not written
unfoldable mutual
  pub spelling : Plain → HeldNames → List ℕ
  spelling void h = []
  spelling (char n) h = to_be_bytes w16 n
  spelling (boolean b) h = from_bool b ∷ []
  spelling (byte n) h = cast_unsigned w8 n ∷ []
  spelling (short n) h = to_be_bytes w16 (cast_unsigned w16 n)
  spelling (unsigned_short n) h = to_be_bytes w16 n
  spelling (long n) h = to_be_bytes w32 (cast_unsigned w32 n)
  spelling (unsigned_long n) h = to_be_bytes w32 n
  spelling (hyper n) h = to_be_bytes w64 (cast_unsigned w64 n)
  spelling (unsigned_hyper n) h = to_be_bytes w64 n
  spelling (str s) h = measured s
  spelling (kind k) h = kind_spelling k h.types
  spelling (any k v) h = kind_spelling k h.types ++ spelling v (holding_types h (kind_after k h.types))
  spelling (enum name n) h = to_be_bytes w32 (cast_unsigned w32 n)
  spelling (tuple name vs) h = spellings vs h
  spelling (list k vs) h = compressed (count vs) ++ spellings vs h
  spelling (bytes b) h = measured b
  spelling (ref r) h = ref_spelling r h.oids

  pub spellings : Plains → HeldNames → List ℕ
  spellings none h = []
  spellings (more v vs) h = spelling v h ++ spellings vs (after v h)
