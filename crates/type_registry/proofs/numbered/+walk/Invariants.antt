use Rattle.std.specs.Prelude.{◌+◌, ◌*◌, ◌-◌}
use Rattle.type_registry.specs.Bases.{names_left}
use Rattle.type_registry.specs.Frames.{tasks_in}
use Rattle.type_registry.specs.Tasks.{doing_of, cost, cost_within, sum_with, costs}
use Rattle.type_registry.proofs.numbered.+walk.Given as goal

abbrev pub decreases-walk : goal.decreases-walk
decreases-walk l = 8 * costs l.registry.now (tasks_in l.todo.now)

abbrev pub decreases-leave : goal.decreases-leave
decreases-leave l = 8 * costs l.registry.now (tasks_in l.before.now) + 1

abbrev pub decreases-visit : goal.decreases-visit
decreases-visit l = 8 * (costs l.registry.now (tasks_in l.before.now) + cost_within l.levels l.registry.now l.name.now) - 2

abbrev pub decreases-do_task : goal.decreases-do_task
decreases-do_task l = 8 * (costs l.registry.now (tasks_in l.before.now) + cost l.registry.now (doing_of l.task.now)) - 1

abbrev pub decreases-visit_all : goal.decreases-visit_all
decreases-visit_all l = 8 * (costs l.registry.now (tasks_in l.todo.now) + sum_with (cost_within l.levels l.registry.now) (names_left l.bases)) + 2
