use Rattle.std.proofs.Common.{List, map, take}
use Rattle.std.specs.List.{flat_map}
use Rattle.idl_joint_places.specs.Circles.{FindsLeast}
use Rattle.idl_names.specs.Paths.{Parts}
use Rattle.idl_repeated_names.specs.Over.{Knows, names_over, owned, told}
use Rattle.idl_repeated_names.specs.Walking.{AllAsked}
use Rattle.idl_repeated_names.specs.declared.over.Kind.TheVariants.{Functions, Fields}
use Rattle.idl_rules_model.specs.NamesDiffer.{repeated_names}
use Rattle.idl_repeated_names.proofs.repeated.least_left.Given as goal

abbrev pub invariant-loop-entry : goal.invariant-loop-entry
invariant-loop-entry l =
    (paths : List Parts) → Knows paths l.entries l.around.owners.now l.around.built_in.now
    → AllAsked (names_over Functions (owned l.around.owners.now) l.around.built_in.now l.around.registry.now) (names_over Fields (owned l.around.owners.now) l.around.built_in.now l.around.registry.now) l.asked
    → FindsLeast (flat_map (repeated_names (map (told paths) l.entries) l.around.registry.now) (map (told paths) (take l.entry-index l.entries))) l.least
