use Rattle.uno_run.proofs.Results.{err_so, ok_so}
use Rattle.uno_run.proofs.SettingUp.{both_files, refused_plan, unread_plan}
use Rattle.uno_run.proofs.setting_up.end_in.Goals as goal

pub returns-in-Ok-clause-is_of : goal.returns-in-Ok-clause-is_of
returns-in-Ok-clause-is_of g c =
    ok_so _ _ c.end_with.result (λ e is types first. both_files _ _ _ _ _ _ _ first c.in-Ok.ensures.found is) (rw c.as_slice.ensures.value at c.end_with.ensures.is_of)

pub returns-in-Ok-clause-refused : goal.returns-in-Ok-clause-refused
returns-in-Ok-clause-refused g c =
    err_so _ _ c.end_with.result (λ status refused types first. refused_plan _ _ _ _ _ _ c.in-Ok.text.items status first c.in-Ok.ensures.found c.in-Ok.ensures.same refused)
    (rw c.as_slice.ensures.value at c.end_with.ensures.refused)

pub returns-in-Err-clause-refused : goal.returns-in-Err-clause-refused
returns-in-Err-clause-refused g c = λ types first. unread_plan _ types _ _ _ _ _ first c.in-Err.ensures.unread
