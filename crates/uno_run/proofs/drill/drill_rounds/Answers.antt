use Rattle.uno_run.proofs.DrillRuns.{none_ran, written_ran}
use Rattle.uno_run.proofs.drill.drill_rounds.Goals as goal

pub returns-in-Ok-clause-run : goal.returns-in-Ok-clause-run
returns-in-Ok-clause-run g c =
    written_ran _ _ g.O.Sink.taken g.O.Sink.faults _ _ c.in-Ok.summary.items c.in-Ok.ensures.summed c.write_text.result (rw c.as_slice.ensures.value at c.write_text.ensures.written)

pub returns-in-Err-clause-run : goal.returns-in-Err-clause-run
returns-in-Err-clause-run g c = none_ran _ _ g.O.Sink.taken g.O.Sink.faults _ c.in-Err.status c.in-Err.ensures.stopped
