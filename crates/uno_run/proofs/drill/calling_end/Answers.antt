use Rattle.uno_run.proofs.drill.calling_end.Goals as goal

pub returns-in-Ok-clause-is_of : goal.returns-in-Ok-clause-is_of
returns-in-Ok-clause-is_of c = rw (c.as_bytes.ensures.value, c.in-Ok.ensures) at c.copied_end.ensures.is_of

pub returns-in-Ok-clause-refused : goal.returns-in-Ok-clause-refused
returns-in-Ok-clause-refused c = rw (c.as_bytes.ensures.value, c.in-Ok.ensures) at c.copied_end.ensures.refused
