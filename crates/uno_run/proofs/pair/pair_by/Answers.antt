use Rattle.uno_run.proofs.PairRuns.{none_ran, written_ran}
use Rattle.uno_run.proofs.pair.pair_by.Goals as goal

pub returns-in-Ok-clause-run : goal.returns-in-Ok-clause-run
returns-in-Ok-clause-run g c =
    written_ran g.F.Files.stored g.F.Files.faults g.O.Sink.taken g.O.Sink.faults _ _ _ _ _ _ _ _ _ c.in-Ok.report.items c.in-Ok.ensures.reported c.in-Ok.ensures.same c.write_text.result
    (rw c.as_slice.ensures.value at c.write_text.ensures.written)

pub returns-in-Err-clause-run : goal.returns-in-Err-clause-run
returns-in-Err-clause-run g c = none_ran g.F.Files.stored g.F.Files.faults g.O.Sink.taken g.O.Sink.faults _ _ _ _ _ _ _ _ c.in-Err.status c.in-Err.ensures.refused
