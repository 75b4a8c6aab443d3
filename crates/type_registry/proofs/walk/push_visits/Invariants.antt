use Rattle.std.specs.Prelude.{◌≡◌, ◌++◌, length}
use Rattle.uno_model.specs.Registry.{stands_on}
use Rattle.type_registry.specs.Bases.{names_left}
use Rattle.type_registry.specs.Tasks.{tasks_of, visits}
use Rattle.type_registry.proofs.walk.push_visits.Given as goal

abbrev pub invariant-loop-base : goal.invariant-loop-base
invariant-loop-base l = tasks_of l.tasks.items ++ visits l.levels (names_left l.left) ≡ tasks_of l.fn.tasks.items ++ visits l.levels (stands_on l.registry l.name)

abbrev pub decreases-loop-base : goal.decreases-loop-base
decreases-loop-base l = length (names_left l.left)
