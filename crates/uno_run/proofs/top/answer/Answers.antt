use Rattle.std.proofs.Common.{refl, inr}
use Rattle.uno_run.proofs.AnswerRuns.{no_words, own_no_words, own_run}
use Rattle.uno_run.proofs.top.answer.Goals as goal

pub returns-in-Ok-clause-run : goal.returns-in-Ok-clause-run
returns-in-Ok-clause-run g c =
    own_run g.I.Source.left g.I.Source.faults g.O.Sink.taken g.O.Sink.faults _ _ _ _ _ _ _ _ c.serve.result c.in-Ok.ensures.is_of c.serve.ensures.served

pub returns-in-Ok-clause-no_words : goal.returns-in-Ok-clause-no_words
returns-in-Ok-clause-no_words g c = no_words c.serve.result c.serve.ensures.ends

pub returns-in-Err-clause-run : goal.returns-in-Err-clause-run
returns-in-Err-clause-run g c = inr (c.in-Err.ensures.refused, (refl, refl))

pub returns-in-Err-clause-no_words : goal.returns-in-Err-clause-no_words
returns-in-Err-clause-no_words g c = own_no_words _ _ _ c.in-Err.ensures.refused
