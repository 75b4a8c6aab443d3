use Rattle.std.proofs.Common.{◌≡◌, ◌++◌, map, take}
use Rattle.std.specs.List.{flat_map}
use Rattle.idl_meaning_model.specs.Uses.{floats}
use Rattle.idl_trees.specs.Members.{constructor_of}
use Rattle.idl_names.specs.Floats.{places_of}
use Rattle.idl_names.proofs.floats.add_constructors.Given as goal

abbrev pub invariant-loop-constructor : goal.invariant-loop-constructor
invariant-loop-constructor l = places_of l.places.items ≡ places_of l.fn.places.items ++ flat_map floats (flat_map (λ c. map (λ p. p.type) c.parameters) (map constructor_of (take l.constructor-index l.constructors)))
