use Rattle.uno_run.proofs.JoiningLaws.{end_as, lost_end}
use Rattle.uno_run.proofs.Results.{err_so, ok_so}
use Rattle.uno_run.proofs.joining.world_with.Goals as goal

pub returns-in-Ok-clause-b : goal.returns-in-Ok-clause-b
returns-in-Ok-clause-b g c = ok_so _ _ c.joined.result (λ w b. end_as _ _ _ _ _ _ b c.in-Ok.ensures.is_of) c.joined.ensures.b

pub returns-in-Ok-clause-refused : goal.returns-in-Ok-clause-refused
returns-in-Ok-clause-refused g c = err_so _ _ c.joined.result (λ status lost. lost_end _ _ _ _ _ _ status lost c.in-Ok.ensures.same) c.joined.ensures.memory
