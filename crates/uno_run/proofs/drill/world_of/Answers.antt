use Rattle.uno_run.proofs.DrillRuns.{types_refused}
use Rattle.uno_run.proofs.drill.world_of.Goals as goal

pub returns-in-Err-clause-refused : goal.returns-in-Err-clause-refused
returns-in-Err-clause-refused c = types_refused _ _ _ (rw c.own_types.ensures at c.in-Err.ensures.refused)
