-- What a value is where it arrives, and when the tables of the reader answer to the names that the sender holds.
use Rattle.std.specs.Prelude.{◌≡◌, ℕ, false, List, length, get_or, None, Some}
use Rattle.std.specs.List.{AllByRecursion}
use Rattle.std.specs.Str.{IsUtf8}
use Rattle.uno_model.specs.Entities.{Entity}
use Rattle.uno_model.specs.Fits.{IsIdentity}
use Rattle.uno_model.specs.Kinds.{Kind, name_of}
use Rattle.uno_model.specs.Recast.{recast}
use Rattle.uno_model.specs.Values.{Ref, null, own, peer, Plain, Plains, kind, any, tuple, list, ref, none, more}
use Rattle.urp_model.specs.Held.{holds, StandsFor}
use Rattle.urp_model.specs.NamedKinds.{is_simple}
use Rattle.urp_model.specs.Tables.{Table, Tables, meaning}
use Rattle.urp_model.specs.Writing.{Names, HeldNames, holding_types, kind_after, after}

-- an object as one of the peer
abbrev pub abroad_ref : Ref → Ref
abroad_ref null = null
abroad_ref (own oid face) = peer oid face
abroad_ref (peer oid face) = peer oid face

-- a value in which each object is one of the peer
unfoldable mutual
  pub abroad : Plain → Plain
  abroad (any k v) = any k (abroad v)
  abroad (tuple name vs) = tuple name (abroad_each vs)
  abroad (list k vs) = list k (abroad_each vs)
  abroad (ref r) = ref (abroad_ref r)
  abroad v = v

  pub abroad_each : Plains → Plains
  abroad_each none = none
  abroad_each (more v vs) = more (abroad v) (abroad_each vs)

-- a value as it arrives at a type: each object is one of the peer, under the interface at its place
abbrev pub carried : List Entity → Plain → Kind → Plain
carried reg v k = abroad (recast reg v k)

-- each name that a slot means has a property, and is an identity
abbrev pub MeansOnly : (List ℕ → Type 0) → Table → Type 0
MeansOnly P table = (slot : ℕ) (name : List ℕ) → meaning slot table ≡ Some name → P name

abbrev pub MeansIdentities : Table → Type 0
MeansIdentities = MeansOnly IsIdentity

-- each name that a slot means is a text
abbrev pub MeansTexts : Table → Type 0
MeansTexts = MeansOnly IsUtf8

-- a table of the reader answers to what the sender holds after some uses: each name that is held is what its slot means
pub record Corresponds (table : Table) (held : Names) : Type 0 where
  pub uses : List (List ℕ)
  pub stands : StandsFor held uses
  pub slots : length table ≡ 256
  pub each : AllByRecursion (λ e. get_or table e.1 None ≡ Some e.0) held

-- the same of the three tables
pub record AllCorrespond (s : Tables) (h : HeldNames) : Type 0 where
  pub types : Corresponds s.types h.types
  pub oids : Corresponds s.oids h.oids
  pub tids : Corresponds s.tids h.tids

-- a type is simple, or its name is not held
abbrev pub IsNewKind : Kind → Names → Type 0
IsNewKind k held = is_simple k ≡ false → holds (name_of k) held ≡ false

-- an object is not held
abbrev pub IsNewRef : Ref → Names → Type 0
IsNewRef null held = Unit
IsNewRef (own oid face) held = holds oid held ≡ false
IsNewRef (peer oid face) held = holds oid held ≡ false

-- each name in a value is new where it stands
unfoldable mutual
  pub IsNew : Plain → HeldNames → Type 0
  IsNew (kind k) h = IsNewKind k h.types
  IsNew (any k v) h = IsNewKind k h.types × IsNew v (holding_types h (kind_after k h.types))
  IsNew (tuple name vs) h = AreNew vs h
  IsNew (list k vs) h = AreNew vs h
  IsNew (ref r) h = IsNewRef r h.oids
  IsNew _ h = Unit

  pub AreNew : Plains → HeldNames → Type 0
  AreNew none h = Unit
  AreNew (more v vs) h = IsNew v h × AreNew vs (after v h)
