use Rattle.uno_entities.specs.Entities.{field_of}
use Rattle.registry_reading_model.specs.Bodies.{fields_line}
use Rattle.registry_reading.proofs.PushLemmas.{pushed_behind}
use Rattle.registry_reading.proofs.fields.push_field.Goals as goal

pub returns : goal.returns
unfolding fields_line
returns c = pushed_behind field_of _ _ _ _ _ _ _ c.in-Some.ensures c.in_ok-read.ensures c.push_read.ensures
