use Rattle.uno_run.proofs.SettingUp.{own_types_refused}
use Rattle.uno_run.proofs.setting_up.own_end.Goals as goal

pub returns-in-Err-clause-refused : goal.returns-in-Err-clause-refused
returns-in-Err-clause-refused c = own_types_refused _ _ _ (rw c.own_types.ensures at c.in-Err.ensures.refused)
