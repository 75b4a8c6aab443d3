use Rattle.uno_run.proofs.Results.{err_so, ok_so}
use Rattle.uno_run.proofs.WorldRuns.{lost_so, summed}
use Rattle.uno_run.proofs.drill.sum_lent.Goals as goal

pub returns-in-Ok-clause-summed : goal.returns-in-Ok-clause-summed
returns-in-Ok-clause-summed c = ok_so _ _ c.summary.result (λ text written. summed _ _ _ _ _ c.requires c.in-Ok.ensures.ran text.items written) c.summary.ensures.summed

pub returns-in-Ok-clause-stopped : goal.returns-in-Ok-clause-stopped
returns-in-Ok-clause-stopped c = err_so _ _ c.summary.result (λ status lost. lost_so _ _ _ status lost) c.summary.ensures.memory
