use Rattle.bridge_laws.proofs.TypedGivenLaws.{said_rightly}
use Rattle.bridge_laws.proofs.saying_laws.what_was_said_is_rightly_said.Goals as goal

pub returns : goal.returns
returns c = said_rightly
