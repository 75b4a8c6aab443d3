-- Which objects a value names at a type: each reference in it that is not null, in order, with the interface under which it is held and the one at its place.
use Rattle.std.specs.Prelude.{ℕ, Bool, true, false, List, [], ◌∷◌, ◌++◌, if◌then◌else◌}
use Rattle.uno_model.specs.Entities.{Entity}
use Rattle.uno_model.specs.Fits.{member_kinds}
use Rattle.uno_model.specs.Kinds.{Kind}
use Rattle.uno_model.specs.Kinds as kd
use Rattle.uno_model.specs.Values.{Ref, null, own, peer, Plain, Plains, any, tuple, list, ref, none, more}

-- an object, whether it is one of the side that has the value, the interface under which the value holds it, and the one that its place writes
pub record Naming : Type 0 where
  pub is_own : Bool
  pub oid : List ℕ
  pub held : List ℕ
  pub written : List ℕ

-- the interface that a place writes: that of its type, and at another type the one that is held
abbrev pub face_at : Kind → List ℕ → List ℕ
face_at (kd.interface written) held = written
face_at k held = held

-- a reference at a type
abbrev pub naming : Ref → Kind → List Naming
naming null k = []
naming (own oid face) k = record { is_own = true; oid = oid; held = face; written = face_at k face } ∷ []
naming (peer oid face) k = record { is_own = false; oid = oid; held = face; written = face_at k face } ∷ []

-- the references of a value at a type, from left to right
unfoldable mutual
  pub namings : List Entity → Plain → Kind → List Naming
  namings reg (any t v) k = namings reg v t
  namings reg (tuple name vs) k = namings_each reg vs (member_kinds reg name)
  namings reg (list t vs) k = namings_all reg vs t
  namings reg (ref r) k = naming r k
  namings reg v k = []

  -- of values at these types
  pub namings_each : List Entity → Plains → List Kind → List Naming
  namings_each reg none ks = []
  namings_each reg (more v vs) [] = []
  namings_each reg (more v vs) (k ∷ ks) = namings reg v k ++ namings_each reg vs ks

  -- of values at one type
  pub namings_all : List Entity → Plains → Kind → List Naming
  namings_all reg none k = []
  namings_all reg (more v vs) k = namings reg v k ++ namings_all reg vs k

-- ---- the references that it stands for

-- as the value holds it
abbrev pub held_ref : Naming → Ref
held_ref n = if n.is_own then own n.oid n.held else peer n.oid n.held

-- as it arrives: one of the peer's, under the interface that was written
abbrev pub arrived_ref : Naming → Ref
arrived_ref n = peer n.oid n.written

-- what a naming is where it arrives
abbrev pub arrived_naming : Naming → Naming
arrived_naming n = record { is_own = false; oid = n.oid; held = n.written; written = n.written }
