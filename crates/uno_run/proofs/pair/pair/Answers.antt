use Rattle.std.proofs.Common.{refl, subst}
use Rattle.uno_run.proofs.PairRuns.{ends_without_words, idle_ran, run_by}
use Rattle.uno_run.proofs.pair.pair.Goals as goal

pub returns-in-Some-clause-run : goal.returns-in-Some-clause-run
returns-in-Some-clause-run g c = run_by g.F.Files.stored g.F.Files.faults g.O.Sink.taken g.O.Sink.faults _ _ _ _ _ _ _ _ _ _ _ c.in-Some.ensures.0 c.pair_by.ensures.run

pub returns-in-Some-clause-no_words : goal.returns-in-Some-clause-no_words
returns-in-Some-clause-no_words g c = ends_without_words _ c.pair_by.ensures.run.only

pub returns-in-None-clause-run : goal.returns-in-None-clause-run
returns-in-None-clause-run g c = idle_ran g.F.Files.stored g.F.Files.faults g.O.Sink.taken g.O.Sink.faults _ _ _ _ _ _ _ _ _ refl refl
