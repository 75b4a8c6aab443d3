use Rattle.uno_run.proofs.Results.{err_so, ok_so}
use Rattle.uno_run.proofs.WorldRuns.{lost_so, reported}
use Rattle.uno_run.proofs.running.report_lent.Goals as goal

pub returns-in-Ok-clause-reported : goal.returns-in-Ok-clause-reported
returns-in-Ok-clause-reported c =
    ok_so _ _ c.report.result (λ text written. reported _ _ _ _ _ c.requires.fresh c.in-Ok.ensures.ran text.items written) c.report.ensures.reported

pub returns-in-Ok-clause-stopped : goal.returns-in-Ok-clause-stopped
returns-in-Ok-clause-stopped c = err_so _ _ c.report.result (λ status lost. lost_so _ _ _ status lost) c.report.ensures.memory
