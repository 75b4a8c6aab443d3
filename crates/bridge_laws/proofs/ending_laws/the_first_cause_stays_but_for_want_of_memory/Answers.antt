use Rattle.bridge_laws.proofs.CauseLaws.{cause_stays}
use Rattle.bridge_laws.proofs.ending_laws.the_first_cause_stays_but_for_want_of_memory.Goals as goal

pub returns : goal.returns
returns c = cause_stays
