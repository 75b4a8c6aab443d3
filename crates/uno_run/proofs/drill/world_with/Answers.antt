use Rattle.uno_run.proofs.JoiningLaws.{lost_at, with_as}
use Rattle.uno_run.proofs.Results.{err_so, ok_so}
use Rattle.uno_run.proofs.drill.world_with.Goals as goal

pub returns-in-Ok-clause-b : goal.returns-in-Ok-clause-b
returns-in-Ok-clause-b c = ok_so _ _ c.joined.result (λ w b. with_as _ _ _ _ _ b (rw c.called_plan.ensures at c.in-Ok.ensures.is_of)) c.joined.ensures.b

pub returns-in-Ok-clause-refused : goal.returns-in-Ok-clause-refused
returns-in-Ok-clause-refused c = err_so _ _ c.joined.result (λ status lost. lost_at _ _ _ status lost) c.joined.ensures.memory

pub returns-in-Err-clause-refused : goal.returns-in-Err-clause-refused
returns-in-Err-clause-refused c = rw c.called_plan.ensures at c.in-Err.ensures.refused
