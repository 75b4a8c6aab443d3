-- The eleventh rule: a struct or an exception has a member, those of its bases counted, an enum an item, an interface a base that is not optional, a service of
-- the new form a constructor; and the limits hold.
use Rattle.std.specs.Prelude.{Bool, ◌&&◌, nat_le, length, List}
use Rattle.uno_model.specs.Entities.{Entity}
use Rattle.uno_model.specs.Functions.{functions_of}
use Rattle.uno_model.specs.Sound.{is_complete, has_member, is_within_limits}

-- at most 65,536 functions, those of its bases counted
abbrev pub has_few_functions : List Entity → Entity → Bool
has_few_functions reg e = nat_le (length (functions_of reg e.name)) 65536

unfoldable pub is_whole_within_limits : List Entity → Entity → Bool
is_whole_within_limits reg e = (is_complete e && has_member reg e) && (is_within_limits e && has_few_functions reg e)
