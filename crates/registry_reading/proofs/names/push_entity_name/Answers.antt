use Rattle.registry_reading.proofs.PushLemmas.{pushed_same}
use Rattle.registry_reading.proofs.names.push_entity_name.Goals as goal

pub returns : goal.returns
returns c = pushed_same _ _ _ _ _ c.in_ok-read.ensures c.push_read.ensures
