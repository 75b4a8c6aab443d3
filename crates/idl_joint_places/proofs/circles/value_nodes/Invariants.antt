use Rattle.std.proofs.Common.{◌≡◌, map, take}
use Rattle.idl_trees.specs.Names.{place_of}
use Rattle.idl_joint_places.specs.Circles.{nodes_of, numbered}
use Rattle.idl_joint_places.proofs.circles.value_nodes.Given as goal

abbrev pub invariant-loop-place : goal.invariant-loop-place
invariant-loop-place l = nodes_of l.nodes.items ≡ numbered 0 (map place_of (take l.place-index l.places))
