use Rattle.std.proofs.Common.{take}
use Rattle.std.specs.List.{flat_map}
use Rattle.idl_repeated_names.specs.Meeting.{Meets}
use Rattle.idl_repeated_names.specs.Over.{functions_at, owned}
use Rattle.type_registry.specs.Met.{names_at}
use Rattle.idl_repeated_names.proofs.over.meet_functions_of.Given as goal

abbrev pub invariant-loop-name : goal.invariant-loop-name
invariant-loop-name l = Meets l.fn.twins l.twins (flat_map (functions_at (owned l.around.owners.now) l.around.built_in.now) (names_at (take l.name-index l.names)))
