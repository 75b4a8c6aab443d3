use Rattle.uno_run.proofs.AnswerRuns.{kept_own}
use Rattle.uno_run.proofs.Keeping.{kept_words}
use Rattle.uno_run.proofs.top.run_answer.Goals as goal

pub returns-clause-run : goal.returns-clause-run
returns-clause-run g c =
    kept_own g.I.Source.left g.I.Source.faults g.O.Sink.taken g.O.Sink.faults _ _ _ _ _ _ _ c.report.result c.answer-status.result c.report.ensures.kept c.answer-status.ensures.run

pub returns-clause-no_words : goal.returns-clause-no_words
returns-clause-no_words g c = kept_words c.report.result c.answer-status.result c.report.ensures.kept c.answer-status.ensures.no_words
