use Rattle.uno_run.proofs.CompileRuns.{texts_no_words, texts_ran, unread_no_words, unread_ran}
use Rattle.uno_run.proofs.compile.compile.Goals as goal

pub returns-in-Ok-clause-run : goal.returns-in-Ok-clause-run
returns-in-Ok-clause-run g c =
    texts_ran g.F.Files.stored g.F.Files.faults g.O.Sink.taken g.O.Sink.faults _ _ _ _ _ _ c.in-Ok.ensures.found c.in-Ok.ensures.same c.compile_texts.result
    (rw c.as_slice.ensures.value at c.compile_texts.ensures.compiled) c.compile_texts.ensures.silent

pub returns-in-Ok-clause-no_words : goal.returns-in-Ok-clause-no_words
returns-in-Ok-clause-no_words g c = texts_no_words _ _ _ _ _ c.compile_texts.result c.compile_texts.ensures.compiled

pub returns-in-Err-clause-run : goal.returns-in-Err-clause-run
returns-in-Err-clause-run g c = unread_ran g.F.Files.stored g.F.Files.faults g.O.Sink.taken g.O.Sink.faults _ _ _ _ c.in-Err.status c.in-Err.ensures.unread

pub returns-in-Err-clause-no_words : goal.returns-in-Err-clause-no_words
returns-in-Err-clause-no_words g c = unread_no_words _ _ _ _ c.in-Err.status c.in-Err.ensures.unread
