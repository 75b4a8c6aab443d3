use Rattle.std.proofs.Common.{map, not, take}
use Rattle.std.specs.List.{flat_map}
use Rattle.idl_rules_model.specs.TypePlaces.{at_unless, place_of_type}
use Rattle.idl_places.specs.Places.{AddsPlaces}
use Rattle.idl_trees.specs.Members.{constructor_parameter_of}
use Rattle.idl_places.proofs.types.add_early_rests.Given as goal

abbrev pub invariant-loop-parameter : goal.invariant-loop-parameter
invariant-loop-parameter l = AddsPlaces l.fn.places.items (flat_map (λ p. at_unless (place_of_type p.type) (not p.rest)) (map constructor_parameter_of (take l.parameter-index l.parameters))) l.places.items
