use Rattle.std.proofs.Common.{map, take}
use Rattle.std.specs.List.{flat_map}
use Rattle.idl_places.specs.Standings.{wrong_stand}
use Rattle.uno_entities.specs.Entities.{entities_of}
use Rattle.idl_rules_model.specs.TypePlaces.{as_value}
use Rattle.idl_places.specs.Places.{AddsPlaces}
use Rattle.idl_trees.specs.Members.{fields_of}
use Rattle.idl_places.proofs.types.add_fields.Given as goal

abbrev pub invariant-loop-line : goal.invariant-loop-line
invariant-loop-line g l = AddsPlaces l.fn.places.items (flat_map (wrong_stand (g.M.Meanings.telling l.meanings) (entities_of l.entities)) (map (λ p. as_value p.type) (map fields_of (take l.line-index l.fields)))) l.places.items
