use Rattle.registry_reading.proofs.HeadLemmas.{found_named}
use Rattle.registry_reading.proofs.heads.Heads.named.Goals as goal

pub returns-in-None-clause-name : goal.returns-in-None-clause-name
returns-in-None-clause-name c = found_named _ _ _ c.find.ensures
