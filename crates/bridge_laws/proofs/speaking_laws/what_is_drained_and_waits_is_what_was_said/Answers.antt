use Rattle.bridge_laws.proofs.FrontLaws.{drained_and_waiting}
use Rattle.bridge_laws.proofs.speaking_laws.what_is_drained_and_waits_is_what_was_said.Goals as goal

pub returns : goal.returns
returns c = drained_and_waiting
