use Rattle.std.proofs.Common.{inl}
use Rattle.uno_run.proofs.serving.serve_lent.Goals as goal

pub returns-in-Ok-clause-served : goal.returns-in-Ok-clause-served
returns-in-Ok-clause-served g c = inl c.serve_roots.ensures.served
