-- The eighth rule: the base of a service and the interfaces that it has are interfaces, and the services that it has are services.
use Rattle.std.specs.Prelude.{Bool, true, ◌&&◌, List}
use Rattle.std.specs.List.{list_all, flat_map}
use Rattle.uno_model.specs.Entities.{Entity, Body, new_service, old_service}
use Rattle.uno_model.specs.Sound.{is_there, is_interface, is_service}
use Rattle.uno_model.specs.Uses.{interfaces_of_part, services_of_part}

abbrev pub parts_of_service_known : List Entity → Body → Bool
parts_of_service_known reg (new_service base constructors) = is_there reg is_interface base
parts_of_service_known reg (old_service parts) =
    list_all (is_there reg is_interface) (flat_map interfaces_of_part parts) && list_all (is_there reg is_service) (flat_map services_of_part parts)
parts_of_service_known reg _ = true

unfoldable pub services_have_parts : List Entity → Entity → Bool
services_have_parts reg e = parts_of_service_known reg e.body
