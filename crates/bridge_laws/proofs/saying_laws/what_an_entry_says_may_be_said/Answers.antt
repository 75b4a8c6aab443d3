use Rattle.bridge_laws.proofs.TypedGivenLaws.{next_sayable}
use Rattle.bridge_laws.proofs.saying_laws.what_an_entry_says_may_be_said.Goals as goal

pub returns : goal.returns
returns c = next_sayable
