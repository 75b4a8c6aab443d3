-- The types of a registry.
use Rattle.std.specs.Prelude.{ℕ, Bool, true, false, ◌&&◌, List}
use Rattle.uno_model.specs.Kinds.{Kind}
use Rattle.uno_model.specs.Entities.{Entity}
use Rattle.uno_model.specs.Sound.{kind_known, elements_storable, is_namable}

-- a simple type, an entity of the registry that is a type, or a sequence of such a type other than void and an exception
abbrev pub is_formed : List Entity → Kind → Bool
is_formed reg k = kind_known reg k && elements_storable k

-- and its name has at most 4,096 bytes and 64 `[]`
abbrev pub is_type : List Entity → Kind → Bool
is_type reg k = is_formed reg k && is_namable k
