use Rattle.uno_entities.specs.Entities.{constant_of}
use Rattle.registry_reading.proofs.PushLemmas.{pushed_behind}
use Rattle.registry_reading.proofs.fields.push_constant.Goals as goal

pub returns : goal.returns
returns c = pushed_behind constant_of _ _ _ _ _ _ _ c.in-Some.ensures c.in_ok-read.ensures c.push_read.ensures
