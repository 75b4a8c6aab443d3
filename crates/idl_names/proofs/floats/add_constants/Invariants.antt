use Rattle.std.proofs.Common.{◌≡◌, ◌++◌, map, take}
use Rattle.std.specs.List.{flat_map}
use Rattle.idl_meaning_model.specs.Uses.{floats}
use Rattle.idl_trees.specs.Members.{constant_of}
use Rattle.idl_names.specs.Floats.{places_of}
use Rattle.idl_names.proofs.floats.add_constants.Given as goal

abbrev pub invariant-loop-constant : goal.invariant-loop-constant
invariant-loop-constant l = places_of l.places.items ≡ places_of l.fn.places.items ++ flat_map floats (map (λ c. c.type) (map constant_of (take l.constant-index l.constants)))
