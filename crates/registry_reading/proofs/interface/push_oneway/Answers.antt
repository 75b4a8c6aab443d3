use Rattle.uno_entities.specs.Entities.{member_of}
use Rattle.registry_reading.proofs.PushLemmas.{pushed_taken}
use Rattle.registry_reading.proofs.interface.push_oneway.Goals as goal

pub returns : goal.returns
returns c = pushed_taken member_of _ _ _ _ _ c.in_ok-read.ensures c.push_read.ensures
