use Rattle.std.proofs.Common.{◌∙◌}
use Rattle.std.proofs.lemmas.Result.{err_from_is_err_and}
use Rattle.answering.proofs.EndLaws.{goes_and_halts, goes_further, halts_at_once}
use Rattle.answering.proofs.working.settle.Goals as goal

pub returns-in_err-turn-clause-settles : goal.returns-in_err-turn-clause-settles
returns-in_err-turn-clause-settles g c =
    let p = err_from_is_err_and c.from_residual.result c.from_residual.ensures.1 in rw (p.1) (goes_and_halts c.turns.invariant.goes c.in_err-turn.ensures.turns)

pub returns-then-not-branch-clause-settles : goal.returns-then-not-branch-clause-settles
returns-then-not-branch-clause-settles g c =
    (goes_further c.turns.invariant.goes c.in_ok-turn.ensures.turns.0, c.in_ok-turn.ensures.turns.1 c.if-not-branch.true)

pub turns-preserved : goal.turns-preserved
turns-preserved g c =
    record {
      goes = goes_further c.turns.invariant.goes c.in_ok-turn.ensures.turns.0;
      roots = c.in_ok-turn.ensures.turns.0.roots c.turns.invariant.roots;
      faults = c.in_ok-turn.ensures.writes ∙ c.turns.invariant.faults;
      stays = c.in_ok-turn.ensures.stays ∙ c.turns.invariant.stays;
    }

pub returns-clause-settles : goal.returns-clause-settles
returns-clause-settles g c = halts_at_once c.turns.invariant.goes
