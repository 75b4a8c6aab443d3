use Rattle.std.proofs.Common.{◌∙◌}
use Rattle.uno_run.proofs.Results.{err_so, ok_so}
use Rattle.uno_run.proofs.setting_up.end_of_files.Goals as goal

pub returns-in-Ok-clause-is_of : goal.returns-in-Ok-clause-is_of
returns-in-Ok-clause-is_of g c =
    ok_so _ _ c.end_in.result (λ e is. is _ c.in-Ok.ensures.is_of) (rw c.in-Ok.ensures.kept at c.end_in.ensures.is_of)

pub returns-in-Ok-clause-same : goal.returns-in-Ok-clause-same
returns-in-Ok-clause-same g c = ok_so _ _ c.end_in.result (λ e same. same ∙ c.in-Ok.ensures.same) c.end_in.ensures.same

pub returns-in-Ok-clause-refused : goal.returns-in-Ok-clause-refused
returns-in-Ok-clause-refused g c =
    err_so _ _ c.end_in.result (λ status none. none _ c.in-Ok.ensures.is_of) (rw (c.in-Ok.ensures.kept, c.in-Ok.ensures.same) at c.end_in.ensures.refused)

pub returns-in-Err-clause-refused : goal.returns-in-Err-clause-refused
returns-in-Err-clause-refused g c = c.in-Err.ensures.refused _
