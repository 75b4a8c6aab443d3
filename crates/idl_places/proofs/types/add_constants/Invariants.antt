use Rattle.std.proofs.Common.{map, take}
use Rattle.std.specs.List.{flat_map}
use Rattle.idl_places.specs.Standings.{wrong_stand}
use Rattle.uno_entities.specs.Entities.{entities_of}
use Rattle.idl_rules_model.specs.TypePlaces.{as_value}
use Rattle.idl_places.specs.Places.{AddsPlaces}
use Rattle.idl_trees.specs.Members.{constant_of}
use Rattle.idl_places.proofs.types.add_constants.Given as goal

abbrev pub invariant-loop-constant : goal.invariant-loop-constant
invariant-loop-constant g l = AddsPlaces l.fn.places.items (flat_map (wrong_stand (g.M.Meanings.telling l.meanings) (entities_of l.entities)) (map (λ p. as_value p.type) (map constant_of (take l.constant-index l.constants)))) l.places.items
