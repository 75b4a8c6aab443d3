use Rattle.std.specs.Prelude.{◌≡◌}
use Rattle.uno_model.specs.Functions.{interfaces_of}
use Rattle.type_registry.specs.Tasks.{tasks_of, done, costs}
use Rattle.type_registry.proofs.walk.interfaces_of.Given as goal

abbrev pub invariant-loop-task : goal.invariant-loop-task
invariant-loop-task l = done l.registry (tasks_of l.tasks.items) l.met ≡ interfaces_of l.registry l.name

abbrev pub decreases-loop-task : goal.decreases-loop-task
decreases-loop-task l = costs l.registry (tasks_of l.tasks.items)
