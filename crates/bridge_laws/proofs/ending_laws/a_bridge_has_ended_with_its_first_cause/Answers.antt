use Rattle.bridge_laws.proofs.CauseLaws.{cause_is}
use Rattle.bridge_laws.proofs.ending_laws.a_bridge_has_ended_with_its_first_cause.Goals as goal

pub returns : goal.returns
returns c = cause_is
