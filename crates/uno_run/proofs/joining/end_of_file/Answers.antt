use Rattle.uno_run.proofs.JoiningLaws.{refused_end, unread_end}
use Rattle.uno_run.proofs.Results.{err_so, ok_so}
use Rattle.uno_run.proofs.joining.end_of_file.Goals as goal

pub returns-in-Ok-clause-is_of : goal.returns-in-Ok-clause-is_of
returns-in-Ok-clause-is_of g c =
    ok_so _ _ c.end_at_place.result (λ e is. record { text = c.in-Ok.text.items; told = c.in-Ok.ensures.found; is_end = is }) (rw c.as_slice.ensures.value at c.end_at_place.ensures.is_of)

pub returns-in-Ok-clause-refused : goal.returns-in-Ok-clause-refused
returns-in-Ok-clause-refused g c =
    err_so _ _ c.end_at_place.result (λ status refused. refused_end _ _ _ _ _ _ c.in-Ok.text.items status c.in-Ok.ensures.found c.in-Ok.ensures.same refused)
    (rw c.as_slice.ensures.value at c.end_at_place.ensures.refused)

pub returns-in-Err-clause-refused : goal.returns-in-Err-clause-refused
returns-in-Err-clause-refused g c = unread_end _ _ _ _ _ _ _ c.in-Err.ensures.unread
