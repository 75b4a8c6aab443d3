use Rattle.bridge_laws.proofs.TypedGivenLaws.{said_sayable}
use Rattle.bridge_laws.proofs.saying_laws.what_was_said_may_be_said.Goals as goal

pub returns : goal.returns
returns c = said_sayable
