use Rattle.std.proofs.Common.{map, take}
use Rattle.uno_entities.specs.Entities.{entities_of}
use Rattle.idl_places.specs.Places.{wrong_paths}
use Rattle.std.specs.List.{flat_map}
use Rattle.uno_model.specs.Sound.{is_service}
use Rattle.idl_rules_model.specs.Services.{subservice_in}
use Rattle.idl_places.specs.Places.{AddsPlaces}
use Rattle.idl_trees.specs.Members.{service_member_of}
use Rattle.idl_places.proofs.services.add_subservices.Given as goal

abbrev pub invariant-loop-member : goal.invariant-loop-member
invariant-loop-member g l = AddsPlaces l.fn.places.items (wrong_paths (g.M.Meanings.telling l.meanings) (entities_of l.entities) is_service (flat_map subservice_in (map service_member_of (take l.member-index l.members)))) l.places.items
