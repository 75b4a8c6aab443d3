use Rattle.std.proofs.Common.{map, take}
use Rattle.std.specs.List.{flat_map}
use Rattle.idl_places.specs.Standings.{wrong_stand}
use Rattle.uno_entities.specs.Entities.{entities_of}
use Rattle.idl_rules_model.specs.TypePlaces.{as_value}
use Rattle.idl_places.specs.Places.{AddsPlaces}
use Rattle.idl_trees.specs.Members.{constructor_parameter_of}
use Rattle.idl_places.proofs.types.add_constructor_parameters.Given as goal

abbrev pub invariant-loop-parameter : goal.invariant-loop-parameter
invariant-loop-parameter g l = AddsPlaces l.fn.places.items (flat_map (wrong_stand (g.M.Meanings.telling l.meanings) (entities_of l.entities)) (map (λ p. as_value p.type) (map constructor_parameter_of (take l.parameter-index l.parameters)))) l.places.items
