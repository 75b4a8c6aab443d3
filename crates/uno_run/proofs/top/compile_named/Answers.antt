use Rattle.uno_run.proofs.CompileRuns.{kept_run}
use Rattle.uno_run.proofs.Keeping.{kept_words}
use Rattle.uno_run.proofs.top.compile_named.Goals as goal

pub returns-clause-run : goal.returns-clause-run
returns-clause-run g c =
    kept_run g.F.Files.stored g.F.Files.faults g.O.Sink.taken g.O.Sink.faults _ _ _ _ _ c.report.result c.compile-status.result c.report.ensures.kept c.compile-status.ensures.run

pub returns-clause-no_words : goal.returns-clause-no_words
returns-clause-no_words g c = kept_words c.report.result c.compile-status.result c.report.ensures.kept c.compile-status.ensures.no_words
