use Rattle.bridge_laws.proofs.TypedGivenLaws.{held_are}
use Rattle.bridge_laws.proofs.fitting_laws.what_is_held_is_supported.Goals as goal

pub returns : goal.returns
returns c = held_are
