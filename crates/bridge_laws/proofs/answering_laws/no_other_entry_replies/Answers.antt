use Rattle.bridge_laws.proofs.ServingLaws.{entry_mute}
use Rattle.bridge_laws.proofs.answering_laws.no_other_entry_replies.Goals as goal

pub returns : goal.returns
returns c = entry_mute
