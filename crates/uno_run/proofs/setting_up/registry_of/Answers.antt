use Rattle.uno_run.proofs.Results.{err_so, ok_so}
use Rattle.uno_run.proofs.SettingUp.{refused_types, unread_types}
use Rattle.uno_run.proofs.setting_up.registry_of.Goals as goal

pub returns-in-Ok-clause-is_of : goal.returns-in-Ok-clause-is_of
returns-in-Ok-clause-is_of g c =
    ok_so _ _ c.registry_in.result (λ registry is_text. record { text = c.in-Ok.text.items; told = c.in-Ok.ensures.found; is_text = is_text })
    (rw c.as_slice.ensures.value at c.registry_in.ensures.is_of)

pub returns-in-Ok-clause-refused : goal.returns-in-Ok-clause-refused
returns-in-Ok-clause-refused g c = λ plan.
    err_so _ _ c.registry_in.result (λ status refused. refused_types _ _ plan _ _ c.in-Ok.text.items status c.in-Ok.ensures.found c.in-Ok.ensures.same refused)
    (rw c.as_slice.ensures.value at c.registry_in.ensures.refused)

pub returns-in-Err-clause-refused : goal.returns-in-Err-clause-refused
returns-in-Err-clause-refused g c = λ plan. unread_types _ _ plan _ _ _ c.in-Err.ensures.unread
