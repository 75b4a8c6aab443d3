use Rattle.uno_run.proofs.PairRuns.{not_joined, stopped_so}
use Rattle.uno_run.proofs.Results.{err_so, ok_so}
use Rattle.uno_run.proofs.pair.report_of_files.Goals as goal

pub returns-in-Ok-clause-reported : goal.returns-in-Ok-clause-reported
returns-in-Ok-clause-reported g c =
    ok_so _ _ c.report_of.result (λ report is. record { settings = _; are_of = c.in-Ok.ensures.are_of; ready = c.in-Ok.ensures.fresh.ready; reported = is }) c.report_of.ensures.reported

pub returns-in-Ok-clause-refused : goal.returns-in-Ok-clause-refused
returns-in-Ok-clause-refused g c =
    err_so _ _ c.report_of.result (λ status stops. stopped_so _ _ _ _ _ _ _ _ _ c.in-Ok.ensures.are_of c.in-Ok.ensures.fresh.ready c.in-Ok.ensures.same status stops) c.report_of.ensures.stopped

pub returns-in-Err-clause-refused : goal.returns-in-Err-clause-refused
returns-in-Err-clause-refused g c = not_joined _ _ _ _ _ _ _ _ _ c.in-Err.ensures.refused
