use Rattle.uno_run.proofs.DrillRuns.{stopped_so}
use Rattle.uno_run.proofs.Results.{err_so, ok_so}
use Rattle.uno_run.proofs.drill.summary_of.Goals as goal

pub returns-in-Ok-clause-summed : goal.returns-in-Ok-clause-summed
returns-in-Ok-clause-summed c =
    ok_so _ _ c.sum_up.result (λ text is. record { settings = _; are_of = c.in-Ok.ensures.are_of; ready = c.in-Ok.ensures.fresh.ready; summed = is }) c.sum_up.ensures.summed

pub returns-in-Ok-clause-stopped : goal.returns-in-Ok-clause-stopped
returns-in-Ok-clause-stopped c =
    err_so _ _ c.sum_up.result (λ status stops. stopped_so _ _ _ c.in-Ok.ensures.are_of c.in-Ok.ensures.fresh.ready status stops) c.sum_up.ensures.stopped
