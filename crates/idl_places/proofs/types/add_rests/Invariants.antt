use Rattle.std.proofs.Common.{map, take}
use Rattle.std.specs.List.{flat_map}
use Rattle.idl_places.specs.Standings.{wrong_rest_of}
use Rattle.idl_places.specs.Places.{AddsPlaces}
use Rattle.idl_trees.specs.Members.{constructor_of}
use Rattle.idl_places.proofs.types.add_rests.Given as goal

abbrev pub invariant-loop-constructor : goal.invariant-loop-constructor
invariant-loop-constructor g l = AddsPlaces l.fn.places.items (flat_map (λ c. wrong_rest_of (g.M.Meanings.telling l.meanings) c.parameters) (map constructor_of (take l.constructor-index l.constructors))) l.places.items
