use Rattle.world_laws.proofs.InterlockLaws.{interlock, interlock_second}
use Rattle.world_laws.proofs.thread_laws.interlock_holds_in_every_run.Goals as goal

pub returns-clause-a : goal.returns-clause-a
returns-clause-a c = interlock

pub returns-clause-b : goal.returns-clause-b
returns-clause-b c = interlock_second
