-- Names with their slots, from the front of bytes: types, objects and threads; what the slots mean after them, and the bytes behind them; or the first fault.
use Rattle.std.specs.Prelude.{ℕ, ◌-◌, ◌==◌, ◌&&◌, nat_lt, Bool, true, false, List, [], ◌∷◌, length, Option, None, Some, Result, Ok, Err, if◌then◌else◌}
use Rattle.std.specs.Int.{w16}
use Rattle.std.specs.Str.{is_utf8}
use Rattle.uno_model.specs.Entities.{Entity}
use Rattle.uno_model.specs.Kinds.{Kind}
use Rattle.uno_model.specs.declared.type_class.TypeClass.{TypeClass}
use Rattle.urp_model.specs.NamedKinds.{class_numbered, simple_kind, kind_named}
use Rattle.urp_model.specs.Parts.{◌>>=◌, judged, byte_at, number_at, name_at, text_name_at, is_slot, slot_at}
use Rattle.urp_model.specs.Tables.{Table, meaning, noted}
use Rattle.urp_model.specs.declared.fault.Fault.{Fault}
use Rattle.urp_model.specs.declared.fault.Fault.TheVariants.{Bad}
use Rattle.urp_model.specs.declared.reason.Reason.TheVariants.{BadClass, BadSlot, BadText, UnknownSlot, UnknownType}

-- ---- types

-- a type whose name the slot means
unfoldable pub held_kind_at : List Entity → TypeClass → Table → List ℕ → Result (Kind × Table × List ℕ) Fault
held_kind_at reg c table bytes = do
  slot ← slot_at bytes
  name ← judged UnknownSlot (meaning slot.0 table)
  k ← judged UnknownType (kind_named reg c name)
  Ok (k, table, slot.1)

-- the type of a name that is written out with a slot
unfoldable pub written_kind : List Entity → TypeClass → Table → ℕ → List ℕ → List ℕ → Result (Kind × Table × List ℕ) Fault
written_kind reg c table slot name rest = do
  k ← judged UnknownType (kind_named reg c name)
  Ok (k, noted slot name table, rest)

-- a type whose name is written out: the slot stands in front of the name, and is judged behind it
unfoldable pub written_kind_at : List Entity → TypeClass → Table → List ℕ → Result (Kind × Table × List ℕ) Fault
written_kind_at reg c table bytes = do
  slot ← number_at w16 bytes
  name ← text_name_at slot.1
  if is_slot slot.0 then written_kind reg c table slot.0 name.0 name.1 else Err (Bad BadSlot)

-- a class byte without the mark of a name that is written out
abbrev pub unmarked : ℕ → ℕ
unmarked b = if nat_lt b 128 then b else b - 128

-- what stands behind a class byte: nothing where the type is simple, which has no mark; a slot; or, with the mark, a slot and the name
unfoldable pub kind_behind : List Entity → Bool → TypeClass → Option Kind → Table → List ℕ → Result (Kind × Table × List ℕ) Fault
kind_behind reg true c (Some k) table rest = Ok (k, table, rest)
kind_behind reg false c (Some k) table rest = Err (Bad BadClass)
kind_behind reg true c None table rest = held_kind_at reg c table rest
kind_behind reg false c None table rest = written_kind_at reg c table rest

-- a type
unfoldable pub kind_at : List Entity → Table → List ℕ → Result (Kind × Table × List ℕ) Fault
kind_at reg table bytes = do
  b ← byte_at bytes
  c ← judged BadClass (class_numbered (unmarked b.0))
  kind_behind reg (nat_lt b.0 128) c (simple_kind c) table b.1

-- ---- objects and threads

-- a name that a slot means, which changes nothing
abbrev pub unchanged : Table → Option (List ℕ) → Option (List ℕ × Table)
unchanged table None = None
unchanged table (Some name) = Some (name, table)

-- what a name and its slot say: an empty name is what the slot means, and another one is from now on what the slot means
unfoldable pub named : Table → List ℕ → ℕ → Option (List ℕ × Table)
named table [] slot = unchanged table (meaning slot table)
named table (c ∷ cs) slot = Some (c ∷ cs, noted slot (c ∷ cs) table)

-- the identity of a thread
unfoldable pub tid_at : Table → List ℕ → Result (List ℕ × Table × List ℕ) Fault
tid_at table bytes = do
  name ← name_at 1024 bytes
  slot ← slot_at name.1
  x ← judged UnknownSlot (named table name.0 slot.0)
  Ok (x.0, x.1, slot.1)

-- no object: an empty text with the slot 65,535
abbrev pub is_null : List ℕ → ℕ → Bool
is_null name slot = (length name == 0) && (slot == 65535)

-- some identity, of one that was named
abbrev pub some_oid : Option (List ℕ × Table) → Option (Option (List ℕ) × Table)
some_oid None = None
some_oid (Some x) = Some (Some x.0, x.1)

-- an identity is a text, also where a slot means it
abbrev pub is_text : Option (List ℕ) → Bool
is_text None = true
is_text (Some oid) = is_utf8 oid

-- the identity of an object, or none for null
unfoldable pub oid_at : Table → List ℕ → Result (Option (List ℕ) × Table × List ℕ) Fault
oid_at table bytes = do
  name ← text_name_at bytes
  slot ← slot_at name.1
  x ← judged UnknownSlot (if is_null name.0 slot.0 then Some (None, table) else some_oid (named table name.0 slot.0))
  if is_text x.0 then Ok (x.0, x.1, slot.1) else Err (Bad BadText)
