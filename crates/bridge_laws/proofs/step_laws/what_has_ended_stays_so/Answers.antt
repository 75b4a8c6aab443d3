use Rattle.bridge_laws.proofs.StepLaws.{ended_along}
use Rattle.bridge_laws.proofs.step_laws.what_has_ended_stays_so.Goals as goal

pub returns : goal.returns
returns c = ended_along
