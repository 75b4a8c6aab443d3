use Rattle.bridge_laws.proofs.TypedGivenLaws.{unsaid_sayable}
use Rattle.bridge_laws.proofs.saying_laws.what_waits_may_be_said.Goals as goal

pub returns : goal.returns
returns c = unsaid_sayable
