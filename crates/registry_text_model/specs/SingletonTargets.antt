-- The ninth rule: a singleton is of an interface, or in the old form of a service.
use Rattle.std.specs.Prelude.{Bool, true, List}
use Rattle.uno_model.specs.Entities.{Entity, Body, new_singleton, old_singleton}
use Rattle.uno_model.specs.Sound.{is_there, is_interface, is_service}

abbrev pub target_known : List Entity → Body → Bool
target_known reg (new_singleton base) = is_there reg is_interface base
target_known reg (old_singleton service) = is_there reg is_service service
target_known reg _ = true

unfoldable pub singletons_have_targets : List Entity → Entity → Bool
singletons_have_targets reg e = target_known reg e.body
