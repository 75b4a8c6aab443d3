use Rattle.uno_run.proofs.WorldRuns.{ran, stands_fresh, stops_so}
use Rattle.uno_run.proofs.running.run_all.Goals as goal

pub run_seeded-requires-clause-stands : goal.run_seeded-requires-clause-stands
run_seeded-requires-clause-stands c = stands_fresh _ _ c.requires.fresh c.requires.first

pub returns-in-Ok-clause-ran : goal.returns-in-Ok-clause-ran
returns-in-Ok-clause-ran c = ran _ _ c.requires.fresh c.requires.first _ _ _ _ c.in-Ok.ensures.plays c.in-Ok.ensures.within

pub returns-in-Err-clause-stopped : goal.returns-in-Err-clause-stopped
returns-in-Err-clause-stopped c = rw c.stopped.ensures (stops_so _ _ c.requires.fresh c.requires.first _ _ _ _ _ _ c.in-Err.is c.run_seeded.ensures.full)
