use Rattle.std.proofs.Common.{length, refl, sym, ap, ◌∙◌, arith, rules}
use Rattle.std.proofs.lemmas.List.{length-map}
use Rattle.type_registry.proofs.TaskLemmas.{popped, first_task, one_task, taken_off, one_less, none_left, all_levels}
use Rattle.type_registry.proofs.walk.interfaces_of.Goals as goal

pub loop-task-init : goal.loop-task-init
loop-task-init c =
    one_task _ _ _ _ _ (first_task _ _ _ c.new-tasks.ensures.items c.in_ok-push.ensures.items) c.new-met.ensures
    ∙ all_levels _ _ _ _ _ (sym (length-map c.entities.result.now _) ∙ ap length c.entities.ensures.all) refl

pub loop-task-smaller : goal.loop-task-smaller
loop-task-smaller c = omega (arith, c.in_ok-do_one.ensures.less, one_less c.args.registry.now _ _ _ (popped _ _ _ _ c.in-Some.ensures.items refl))

pub loop-task-preserved : goal.loop-task-preserved
loop-task-preserved c = c.in_ok-do_one.ensures.done ∙ taken_off _ _ _ _ _ _ _ (popped _ _ _ _ c.in-Some.ensures.items refl) c.loop-task.invariant refl

pub returns : goal.returns
returns c = none_left _ _ _ _ (search rules) c.loop-task.invariant
