use Rattle.idl_repeated_names.specs.Over.{names_over, owned}
use Rattle.idl_repeated_names.specs.Walking.{Walked}
use Rattle.idl_repeated_names.proofs.walk.walk_along.Given as goal

abbrev pub invariant-loop-place : goal.invariant-loop-place
invariant-loop-place l = Walked (names_over l.kind (owned l.around.owners.now) l.around.built_in.now l.around.registry.now) l.walk
