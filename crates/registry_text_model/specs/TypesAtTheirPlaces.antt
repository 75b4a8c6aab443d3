-- The tenth rule: each name in a type is an entity of its kind, void is a method's result alone, and exceptions are no members, parameters or elements.
-- Services, singletons, constants and typedefs are no types of a registry at all.
use Rattle.std.specs.Prelude.{Bool, ◌&&◌, List}
use Rattle.uno_model.specs.Entities.{Entity}
use Rattle.uno_model.specs.Sound.{types_known, types_allowed}

unfoldable pub types_stand_at_their_places : List Entity → Entity → Bool
types_stand_at_their_places reg e = types_known reg e.body && types_allowed e.body
