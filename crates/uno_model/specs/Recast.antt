-- A value as it arrives at a type: each object under the interface that its place names.
use Rattle.std.specs.Prelude.{ℕ, List, [], ◌∷◌}
use Rattle.uno_model.specs.Kinds.{Kind}
use Rattle.uno_model.specs.Kinds as kd
use Rattle.uno_model.specs.Entities.{Entity}
use Rattle.uno_model.specs.Fits.{member_kinds}
use Rattle.uno_model.specs.Values.{Ref, null, own, peer, Plain, Plains, any, tuple, list, ref, none, more}

-- a reference under the interface that is asked
abbrev pub recast_ref : Ref → Kind → Ref
recast_ref (own oid face) (kd.interface wanted) = own oid wanted
recast_ref (peer oid face) (kd.interface wanted) = peer oid wanted
recast_ref r k = r

-- the value, each reference in it under the interface at its place in the type
unfoldable mutual
  pub recast : List Entity → Plain → Kind → Plain
  recast reg (any t v) k = any t (recast reg v t)
  recast reg (tuple name vs) k = tuple name (recast_each reg vs (member_kinds reg name))
  recast reg (list t vs) k = list t (recast_all reg vs t)
  recast reg (ref r) k = ref (recast_ref r k)
  recast reg v k = v

  pub recast_each : List Entity → Plains → List Kind → Plains
  recast_each reg none ks = none
  recast_each reg (more v vs) [] = more v vs
  recast_each reg (more v vs) (k ∷ ks) = more (recast reg v k) (recast_each reg vs ks)

  pub recast_all : List Entity → Plains → Kind → Plains
  recast_all reg none k = none
  recast_all reg (more v vs) k = more (recast reg v k) (recast_all reg vs k)
