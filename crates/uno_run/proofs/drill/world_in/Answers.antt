use Rattle.uno_run.proofs.DrillRuns.{called_refused, calling_refused}
use Rattle.uno_run.proofs.JoiningLaws.{are_of, with_as}
use Rattle.uno_run.proofs.Results.{err_so, ok_both}
use Rattle.uno_run.proofs.drill.world_in.Goals as goal

pub returns-in-Ok-clause-are_of : goal.returns-in-Ok-clause-are_of
returns-in-Ok-clause-are_of c =
    ok_both _ _ _ c.world_with.result (λ w a b. are_of _ _ _ _ _ c.requires.is_text (with_as _ _ _ _ _ a c.in-Ok.ensures.is_of) b) c.world_with.ensures.a c.world_with.ensures.b

pub returns-in-Ok-clause-refused : goal.returns-in-Ok-clause-refused
returns-in-Ok-clause-refused c = err_so _ _ c.world_with.result (λ status refused. called_refused _ _ _ c.requires.is_text status refused) c.world_with.ensures.refused

pub returns-in-Err-clause-refused : goal.returns-in-Err-clause-refused
returns-in-Err-clause-refused c = calling_refused _ _ _ c.requires.is_text _ c.in-Err.ensures.refused
