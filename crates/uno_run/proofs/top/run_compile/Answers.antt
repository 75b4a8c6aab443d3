use Rattle.std.proofs.Common.{refl}
use Rattle.uno_run.proofs.CompileRuns.{idle_ran}
use Rattle.uno_run.proofs.Keeping.{for_memory}
use Rattle.uno_run.proofs.top.run_compile.Goals as goal

pub returns-in-Ok-clause-run : goal.returns-in-Ok-clause-run
returns-in-Ok-clause-run g c = rw (c.as_slice.ensures.value, c.in-Ok.ensures) at c.compile_named.ensures.run

pub returns-in-Ok-clause-line : goal.returns-in-Ok-clause-line
returns-in-Ok-clause-line g c = rw (c.as_slice.ensures.value, c.in-Ok.ensures) at c.compile_named.ensures.line

pub returns-in-Err-clause-run : goal.returns-in-Err-clause-run
returns-in-Err-clause-run g c =
    idle_ran g.F.Files.stored g.F.Files.faults g.O.Sink.taken g.O.Sink.faults _ _ _ _ c.report.result refl (for_memory c.report.result c.report.ensures.kept)
