use Rattle.std.proofs.Common.{◌++◌, ◌∙◌, ap}
use Rattle.std.specs.List.{flat_map, range_with_len}
use Rattle.report_model.specs.Drills.{calling_plan, thread_text}
use Rattle.uno_run.proofs.drill_plans.calling_plan.Goals as goal

pub returns : goal.returns
unfolding calling_plan
returns c = c.in_ok-push_threads.ensures ∙ ap (λ t. t ++ flat_map (thread_text c.args.rounds c.args.seed) (range_with_len 0 4)) c.in_ok-text.ensures
