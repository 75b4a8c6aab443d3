use Rattle.std.proofs.Common.{◌∙◌}
use Rattle.uno_run.proofs.JoiningLaws.{types_none}
use Rattle.uno_run.proofs.Results.{err_so, ok_so}
use Rattle.uno_run.proofs.joining.world_of_files.Goals as goal

pub returns-in-Ok-clause-are_of : goal.returns-in-Ok-clause-are_of
returns-in-Ok-clause-are_of g c = ok_so _ _ c.world_in.result (λ w are. are _ c.in-Ok.ensures.is_of) (rw c.in-Ok.ensures.kept at c.world_in.ensures.are_of)

pub returns-in-Ok-clause-same : goal.returns-in-Ok-clause-same
returns-in-Ok-clause-same g c = ok_so _ _ c.world_in.result (λ w same. same ∙ c.in-Ok.ensures.same) c.world_in.ensures.same

pub returns-in-Ok-clause-refused : goal.returns-in-Ok-clause-refused
returns-in-Ok-clause-refused g c =
    err_so _ _ c.world_in.result (λ status none. none _ c.in-Ok.ensures.is_of) (rw (c.in-Ok.ensures.kept, c.in-Ok.ensures.same) at c.world_in.ensures.refused)

pub returns-in-Err-clause-refused : goal.returns-in-Err-clause-refused
returns-in-Err-clause-refused g c = types_none _ _ _ _ _ _ _ (c.in-Err.ensures.refused _)
