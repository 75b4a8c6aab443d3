use Rattle.std.proofs.Common.{map, take}
use Rattle.idl_places.specs.Places.{AddsPlaces}
use Rattle.idl_trees.specs.Members.{item_of}
use Rattle.idl_joint_places.proofs.circles.add_item_places.Given as goal

abbrev pub invariant-loop-item : goal.invariant-loop-item
invariant-loop-item l = AddsPlaces l.fn.places.items (map (λ k. k.name.place) (map item_of (take l.item-index l.items))) l.places.items
