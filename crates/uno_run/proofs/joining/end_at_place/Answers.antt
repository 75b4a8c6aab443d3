use Rattle.uno_run.proofs.JoiningLaws.{refused_so}
use Rattle.uno_run.proofs.joining.end_at_place.Goals as goal

pub returns-in-Err-clause-refused : goal.returns-in-Err-clause-refused
returns-in-Err-clause-refused c = refused_so _ _ _ _ _ _ c.refused_at.ensures c.in-Err.is c.tagged_end.ensures.wrong
