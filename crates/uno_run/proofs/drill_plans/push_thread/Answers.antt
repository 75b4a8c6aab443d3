use Rattle.uno_run.proofs.RoundLaws.{thread_put}
use Rattle.uno_run.proofs.drill_plans.push_thread.Goals as goal

pub returns : goal.returns
returns c = thread_put _ _ _ _ _ _ _ c.in_ok-push_str.ensures.bytes c.in_ok-push_rounds.ensures c.in_ok-push_str-2.ensures.bytes
