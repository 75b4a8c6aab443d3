use Rattle.std.proofs.Common.{refl}
use Rattle.uno_run.proofs.top.obey.Goals as goal

pub returns-in-Answer-clause-answer : goal.returns-in-Answer-clause-answer
returns-in-Answer-clause-answer g c = λ is. (refl, c.run_answer.ensures.run)
