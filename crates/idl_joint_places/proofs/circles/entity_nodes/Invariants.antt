use Rattle.std.proofs.Common.{◌≡◌, map, take}
use Rattle.std.specs.List.{filter_map}
use Rattle.uno_entities.specs.Entities.{entities_of}
use Rattle.idl_names.specs.Collected.{declared_of}
use Rattle.idl_joint_places.specs.Circles.{node_there, nodes_of}
use Rattle.idl_joint_places.proofs.circles.entity_nodes.Given as goal

abbrev pub invariant-loop-declared : goal.invariant-loop-declared
invariant-loop-declared l = nodes_of l.nodes.items ≡ filter_map (node_there (entities_of l.entities)) (map (declared_of l.paths) (take l.declared-index l.all))
