use Rattle.uno_run.proofs.Results.{err_so, ok_so}
use Rattle.uno_run.proofs.SettingUp.{own_plan_refused}
use Rattle.uno_run.proofs.setting_up.own_end_in.Goals as goal

pub returns-clause-is_of : goal.returns-clause-is_of
returns-clause-is_of c = ok_so _ _ c.end_with.result (λ e is. is _ c.requires.is_text) (rw c.own_plan.ensures at c.end_with.ensures.is_of)

pub returns-clause-refused : goal.returns-clause-refused
returns-clause-refused c =
    err_so _ _ c.end_with.result (λ status refused. own_plan_refused _ _ _ c.requires.is_text status refused) (rw c.own_plan.ensures at c.end_with.ensures.refused)
