use Rattle.std.proofs.Common.{refl}
use Rattle.uno_run.proofs.DrillRuns.{ends_without_words, idle_ran}
use Rattle.uno_run.proofs.drill.drill.Goals as goal

pub returns-in-Ok-clause-no_words : goal.returns-in-Ok-clause-no_words
returns-in-Ok-clause-no_words g c = ends_without_words _ c.drill_rounds.ensures.run.only

pub returns-in-Err-clause-run : goal.returns-in-Err-clause-run
returns-in-Err-clause-run g c = idle_ran _ _ g.O.Sink.taken g.O.Sink.faults _ _ refl
