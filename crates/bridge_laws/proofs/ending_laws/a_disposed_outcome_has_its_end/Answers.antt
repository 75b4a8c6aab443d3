use Rattle.bridge_laws.proofs.CauseLaws.{disposed_has_end, disposed_taken, memory_has_end}
use Rattle.bridge_laws.proofs.ending_laws.a_disposed_outcome_has_its_end.Goals as goal

pub returns-clause-held : goal.returns-clause-held
returns-clause-held c = disposed_has_end

pub returns-clause-taken : goal.returns-clause-taken
returns-clause-taken c = disposed_taken

pub returns-clause-forgotten : goal.returns-clause-forgotten
returns-clause-forgotten c = memory_has_end
