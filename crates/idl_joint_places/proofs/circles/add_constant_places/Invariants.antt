use Rattle.std.proofs.Common.{map, take}
use Rattle.idl_places.specs.Places.{AddsPlaces}
use Rattle.idl_trees.specs.Members.{constant_of}
use Rattle.idl_joint_places.proofs.circles.add_constant_places.Given as goal

abbrev pub invariant-loop-constant : goal.invariant-loop-constant
invariant-loop-constant l = AddsPlaces l.fn.places.items (map (λ k. k.name.place) (map constant_of (take l.constant-index l.constants))) l.places.items
