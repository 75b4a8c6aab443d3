use Rattle.std.proofs.Common.{map, take}
use Rattle.std.specs.List.{flat_map}
use Rattle.idl_places.specs.Standings.{wrong_stand}
use Rattle.uno_entities.specs.Entities.{entities_of}
use Rattle.idl_rules_model.specs.TypePlaces.{in_service}
use Rattle.idl_places.specs.Places.{AddsPlaces}
use Rattle.idl_trees.specs.Members.{service_member_of}
use Rattle.idl_places.proofs.types.add_properties.Given as goal

abbrev pub invariant-loop-member : goal.invariant-loop-member
invariant-loop-member g l = AddsPlaces l.fn.places.items (flat_map (wrong_stand (g.M.Meanings.telling l.meanings) (entities_of l.entities)) (flat_map in_service (map service_member_of (take l.member-index l.members)))) l.places.items
