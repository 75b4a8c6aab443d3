use Rattle.bridge_laws.proofs.SpelledLaws.{spelled}
use Rattle.bridge_laws.proofs.coming_laws.what_came_spells_what_was_got.Goals as goal

pub returns : goal.returns
returns c = spelled
