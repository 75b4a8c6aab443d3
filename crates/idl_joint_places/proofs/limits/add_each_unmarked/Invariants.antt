use Rattle.std.proofs.Common.{map, take}
use Rattle.std.specs.List.{flat_map}
use Rattle.uno_entities.specs.Entities.{entities_of}
use Rattle.registry_text_model.specs.WholeWithinLimits.{is_whole_within_limits}
use Rattle.idl_names.specs.Collected.{declared_of}
use Rattle.idl_places.specs.Places.{AddsPlaces}
use Rattle.idl_joint_places.specs.There.{failing_there}
use Rattle.idl_joint_places.proofs.limits.add_each_unmarked.Given as goal

abbrev pub invariant-loop-declared : goal.invariant-loop-declared
invariant-loop-declared l =
    AddsPlaces l.fn.places.items (flat_map (failing_there (is_whole_within_limits (entities_of l.entities)) (entities_of l.entities)) (map (declared_of l.paths) (take l.declared-index l.all))) l.places.items
