use Rattle.uno_run.proofs.RoundLaws.{round_put}
use Rattle.uno_run.proofs.drill_plans.push_round.Goals as goal

pub returns : goal.returns
returns c =
    round_put _ _ c.depth_of.result _ _ _ _ _ _ _ c.depth_of.ensures c.in_ok-relay_lines.ensures c.in_ok-turn_line.ensures c.in_ok-last_lines.ensures c.in_ok-push_text.ensures c.in_ok-push_text-2.ensures
    c.in_ok-push_text-3.ensures
