use Rattle.std.proofs.Common.{map, take}
use Rattle.uno_entities.specs.Entities.{entities_of}
use Rattle.idl_places.specs.Places.{wrong_paths}
use Rattle.std.specs.List.{flat_map}
use Rattle.uno_model.specs.Sound.{is_exception}
use Rattle.idl_places.specs.Places.{AddsPlaces}
use Rattle.idl_trees.specs.Members.{constructor_of}
use Rattle.idl_places.proofs.raised.add_constructors.Given as goal

abbrev pub invariant-loop-constructor : goal.invariant-loop-constructor
invariant-loop-constructor g l = AddsPlaces l.fn.places.items (wrong_paths (g.M.Meanings.telling l.meanings) (entities_of l.entities) is_exception (flat_map (λ k. k.raises) (map constructor_of (take l.constructor-index l.constructors)))) l.places.items
