-- What a writer holds, and what it writes of one name.
use Rattle.std.specs.Prelude.{ℕ, ◌+◌, ◌^◌, ◌<◌, Bool, true, false, List, [], ◌∷◌, ◌++◌, length, if◌then◌else◌}
use Rattle.uno_model.specs.Kinds.{Kind, name_of}
use Rattle.uno_model.specs.Kinds as kd
use Rattle.uno_model.specs.Values.{Ref, null, own, peer, Plain, Plains, str, kind, any, tuple, list, bytes, ref, none, more}
use Rattle.uno_model.specs.Weights.{count}
use Rattle.urp_cache.specs.declared.send_caches.SendCaches.{SendCaches}
use Rattle.urp_model.specs.Held.{holds, slot_for}
use Rattle.urp_model.specs.Writing.{Names, HeldNames, measured, slot_bytes}
use Rattle.urp_model.specs.declared.known.Known.{Known}
use Rattle.urp_model.specs.declared.known.Known.TheVariants.{Old, New}

-- the names that the three caches of a sender hold
abbrev pub names_of : SendCaches → HeldNames
names_of caches = record { types = caches.types; oids = caches.oids; tids = caches.tids }

-- a name that was held is empty, and a new one is written out
abbrev pub name_or_nothing : Known → List ℕ → List ℕ
name_or_nothing Old name = 0 ∷ []
name_or_nothing New name = measured name

-- a class with the slot of a name that was held, or with the mark, a slot and the new name
abbrev pub class_and_name : Known → ℕ → ℕ → List ℕ → List ℕ
class_and_name Old class slot name = class ∷ slot_bytes slot
class_and_name New class slot name = (class + 128) ∷ (slot_bytes slot ++ measured name)

-- a class with its name, or with the slot of the name where that is held
abbrev pub named_spelling : ℕ → List ℕ → Names → List ℕ
named_spelling class name held =
    if holds name held then class ∷ slot_bytes (slot_for name held) else (class + 128) ∷ (slot_bytes (slot_for name held) ++ measured name)

-- the type is a sequence
abbrev pub is_sequence : Kind → Bool
is_sequence (kd.sequence k) = true
is_sequence _ = false

-- an identity has a length of four bytes
abbrev pub IsWritableRef : Ref → Type 0
IsWritableRef null = Unit
IsWritableRef (own oid face) = length oid < 2 ^ 32
IsWritableRef (peer oid face) = length oid < 2 ^ 32

-- each text, name and identity has a length, and each sequence a count, of four bytes
unfoldable mutual
  pub IsWritable : Plain → Type 0
  IsWritable (str s) = length s < 2 ^ 32
  IsWritable (kind k) = length (name_of k) < 2 ^ 32
  IsWritable (any k v) = (length (name_of k) < 2 ^ 32) × IsWritable v
  IsWritable (tuple name vs) = AreWritable vs
  IsWritable (list k vs) = (count vs < 2 ^ 32) × AreWritable vs
  IsWritable (bytes b) = length b < 2 ^ 32
  IsWritable (ref r) = IsWritableRef r
  IsWritable _ = Unit

  pub AreWritable : Plains → Type 0
  AreWritable none = Unit
  AreWritable (more v vs) = IsWritable v × AreWritable vs
