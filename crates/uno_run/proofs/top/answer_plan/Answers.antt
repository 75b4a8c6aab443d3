use Rattle.uno_run.proofs.AnswerRuns.{no_words, none_no_words, run_none, run_served}
use Rattle.uno_run.proofs.top.answer_plan.Goals as goal

pub returns-in-Ok-clause-run : goal.returns-in-Ok-clause-run
returns-in-Ok-clause-run g c =
    run_served g.F.Files.stored g.F.Files.faults g.I.Source.left g.I.Source.faults g.O.Sink.taken g.O.Sink.faults _ _ _ _ _ _ _ _ _ _ c.serve.result c.in-Ok.ensures.is_of c.in-Ok.ensures.same
    c.serve.ensures.ends c.serve.ensures.served

pub returns-in-Ok-clause-no_words : goal.returns-in-Ok-clause-no_words
returns-in-Ok-clause-no_words g c = no_words c.serve.result c.serve.ensures.ends

pub returns-in-Err-clause-run : goal.returns-in-Err-clause-run
returns-in-Err-clause-run g c =
    run_none g.F.Files.stored g.F.Files.faults g.I.Source.left g.I.Source.faults g.O.Sink.taken g.O.Sink.faults _ _ _ _ _ _ _ _ c.in-Err.ensures.refused

pub returns-in-Err-clause-no_words : goal.returns-in-Err-clause-no_words
returns-in-Err-clause-no_words g c = none_no_words _ _ _ _ _ _ c.in-Err.ensures.refused
