use Rattle.uno_run.proofs.IdlRuns.{text_ran, unread_no_words, unread_ran}
use Rattle.uno_run.proofs.idl.idl.Goals as goal

pub returns-in-Ok-clause-run : goal.returns-in-Ok-clause-run
returns-in-Ok-clause-run g c =
    text_ran g.F.Files.stored g.F.Files.faults g.O.Sink.taken g.O.Sink.faults _ _ _ _ _ c.print_text.result c.in-Ok.text.items c.in-Ok.ensures.found c.in-Ok.ensures.same
    (rw c.as_slice.ensures.value at c.print_text.ensures.printed) c.print_text.ensures.silent

pub returns-in-Err-clause-run : goal.returns-in-Err-clause-run
returns-in-Err-clause-run g c = unread_ran g.F.Files.stored g.F.Files.faults g.O.Sink.taken g.O.Sink.faults _ _ _ _ _ c.in-Err.ensures.unread

pub returns-in-Err-clause-no_words : goal.returns-in-Err-clause-no_words
returns-in-Err-clause-no_words g c = unread_no_words _ _ _ _ _ _ c.in-Err.ensures.unread
