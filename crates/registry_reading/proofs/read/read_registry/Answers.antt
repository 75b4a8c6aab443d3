use Rattle.registry_reading.proofs.ReadLemmas.{on_done, accepts, sound}
use Rattle.registry_reading.proofs.read.read_registry.Goals as goal

pub returns-clause-sound : goal.returns-clause-sound
returns-clause-sound c = on_done _ _ _ (sound c.args.bytes.now) c.read_short.ensures.accepted

pub returns-clause-accepts : goal.returns-clause-accepts
returns-clause-accepts c = λ reg keeps has rising text short. accepts _ _ c.read_short.ensures.accepted c.read_short.ensures.refused reg keeps has rising text
