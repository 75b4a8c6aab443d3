use Rattle.std.proofs.Common.{sym, ap, ◌∙◌, arith}
use Rattle.type_registry.specs.Bases.{names_left}
use Rattle.type_registry.specs.Frames.{tasks_in}
use Rattle.type_registry.specs.Tasks.{visit, leave, doing_of, cost, costs, cost_within, sum_with}
use Rattle.type_registry.proofs.TaskLemmas.{over_none, was_met, some_cost, task_cost, costs_last, cost_more, sum_last}
use Rattle.type_registry.proofs.WalkLemmas.{nothing_left, one_visit, visits_nothing, visits_bases, found_here, found_further}
use Rattle.type_registry.proofs.numbered.+walk.Goals as goal

pub do_task-visit-requires : goal.do_task-visit-requires
do_task-visit-requires t c =
    omega (arith, some_cost c.args.registry.now c.in-Visit.levels c.in-Visit.name.now, ap (λ d. cost c.args.registry.now (doing_of d)) c.in-Visit.is)

pub leave-returns-in-Found-clause-found : goal.leave-returns-in-Found-clause-found
leave-returns-in-Found-clause-found t c = found_here _ (tasks_in c.args.before.now) _ _ _ _ c.in-Found.ensures

pub leave-returns-in-Past-clause-found : goal.leave-returns-in-Past-clause-found
leave-returns-in-Past-clause-found t c = found_further _ (tasks_in c.args.before.now) _ _ _ _ _ c.in-Past.ensures c.walk.ensures.found

pub visit-walk-requires : goal.visit-walk-requires
visit-walk-requires t c = omega (arith, some_cost c.args.registry.now c.args.levels c.args.name.now)

pub visit-returns-in_default-clause-found : goal.visit-returns-in_default-clause-found
visit-returns-in_default-clause-found t c = visits_nothing _ _ _ _ _ _ _ (over_none _ _ _ _ (omega (arith, c.in_default.ensures))) c.walk.ensures.found

pub visit-walk-requires-then-has : goal.visit-walk-requires-then-has
visit-walk-requires-then-has t c = omega (arith, some_cost c.args.registry.now c.args.levels c.args.name.now)

pub visit-returns-then-has-clause-found : goal.visit-returns-then-has-clause-found
visit-returns-then-has-clause-found t c =
    visits_nothing _ _ _ _ _ _ _ (was_met _ _ _ _ (omega (arith, c.in-Some.ensures.0)) (sym c.has.ensures ∙ c.if-has.true)) c.walk-then-has.ensures.found

pub visit-visit_all-requires : goal.visit-visit_all-requires
visit-visit_all-requires t c =
    omega (
      arith,
      costs_last c.args.registry.now (tasks_in c.args.before.now) (leave c.args.name.now),
      cost_more c.args.registry.now c.args.levels c.in-Some.levels c.args.name.now (omega (arith, c.in-Some.ensures.0, c.in-Some.ensures.1)),
      ap (sum_with (cost_within c.in-Some.levels c.args.registry.now)) c.bases_of-bases.ensures,
    )

pub visit-returns-clause-found : goal.visit-returns-clause-found
visit-returns-clause-found t c =
    visits_bases _ _ _ _ c.in-Some.levels _ _ _ _ (omega (arith, c.in-Some.ensures.0, c.in-Some.ensures.1)) (sym c.has.ensures ∙ c.if-has.false)
    c.bases_of-bases.ensures c.visit_all.ensures.found

pub visit_all-visit_all-requires : goal.visit_all-visit_all-requires
visit_all-visit_all-requires t c =
    omega (
      arith,
      costs_last c.args.registry.now (tasks_in c.args.todo.now) (visit c.in-Some.name.now c.args.levels),
      sum_last (cost_within c.args.levels c.args.registry.now) (names_left c.in-Some.others) c.in-Some.name.now (names_left c.args.bases) c.in-Some.ensures,
    )

pub visit_all-returns-clause-found : goal.visit_all-returns-clause-found
visit_all-returns-clause-found t c = one_visit _ _ _ _ _ _ _ _ _ c.in-Some.ensures c.visit_all.ensures.found

pub walk-do_task-requires : goal.walk-do_task-requires
walk-do_task-requires t c =
    omega (
      arith,
      costs_last c.args.registry.now (tasks_in c.in-More.before.now) (doing_of c.in-More.task),
      ap (λ d. costs c.args.registry.now (tasks_in d)) c.in-More.is,
      task_cost c.args.registry.now (doing_of c.in-More.task),
    )

pub walk-returns-in-Nothing-clause-found : goal.walk-returns-in-Nothing-clause-found
walk-returns-in-Nothing-clause-found t c = nothing_left _ _ _ _ (ap tasks_in c.in-Nothing.is)
