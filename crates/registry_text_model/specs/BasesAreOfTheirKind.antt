-- The first rule: a base is of the same kind as what stands on it, and so is an optional one.
use Rattle.std.specs.Prelude.{Bool, List}
use Rattle.uno_model.specs.Entities.{Entity}
use Rattle.uno_model.specs.Sound.{bases_known}

unfoldable pub bases_are_of_their_kind : List Entity → Entity → Bool
bases_are_of_their_kind reg e = bases_known reg e.body
