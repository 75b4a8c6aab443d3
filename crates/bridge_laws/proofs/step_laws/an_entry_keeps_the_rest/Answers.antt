use Rattle.bridge_laws.proofs.RestLaws.{rest_kept}
use Rattle.bridge_laws.proofs.step_laws.an_entry_keeps_the_rest.Goals as goal

pub returns : goal.returns
returns c = rest_kept
