use Rattle.registry_reading.proofs.ReadLemmas.{accepted}
use Rattle.registry_reading.proofs.read.read_short.Goals as goal

pub returns-clause-accepted : goal.returns-clause-accepted
returns-clause-accepted c = accepted _ _ _ c.in_ok-registry.ensures.whole c.in_ok-judge.ensures.kept
