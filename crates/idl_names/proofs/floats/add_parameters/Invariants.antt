use Rattle.std.proofs.Common.{◌≡◌, ◌++◌, map, take}
use Rattle.std.specs.List.{flat_map}
use Rattle.idl_meaning_model.specs.Uses.{floats}
use Rattle.idl_trees.specs.Members.{parameter_of}
use Rattle.idl_names.specs.Floats.{places_of}
use Rattle.idl_names.proofs.floats.add_parameters.Given as goal

abbrev pub invariant-loop-parameter : goal.invariant-loop-parameter
invariant-loop-parameter l = places_of l.places.items ≡ places_of l.fn.places.items ++ flat_map floats (map (λ p. p.type) (map parameter_of (take l.parameter-index l.parameters)))
