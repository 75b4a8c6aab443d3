use Rattle.bridge_laws.proofs.TypedGivenLaws.{sent_are}
use Rattle.bridge_laws.proofs.fitting_laws.what_was_sent_out_is_supported.Goals as goal

pub returns : goal.returns
returns c = sent_are
