use Rattle.bridge_laws.proofs.FrontLaws.{drained_front}
use Rattle.bridge_laws.proofs.speaking_laws.what_is_drained_is_a_front_of_what_was_said.Goals as goal

pub returns : goal.returns
returns c = drained_front
