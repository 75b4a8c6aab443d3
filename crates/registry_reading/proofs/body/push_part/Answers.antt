use Rattle.uno_entities.specs.Entities.{part_of}
use Rattle.registry_reading.proofs.PushLemmas.{pushed_behind}
use Rattle.registry_reading.proofs.body.push_part.Goals as goal

pub returns : goal.returns
returns c = pushed_behind part_of _ _ _ _ _ _ _ c.in-Some.ensures c.in_ok-read.ensures c.push_read.ensures
