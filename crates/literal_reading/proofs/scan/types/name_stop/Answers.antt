use Rattle.literal_model.specs.Shapes.{is_name_byte}
use Rattle.literal_reading.proofs.NameLemmas.{first_pass}
use Rattle.literal_reading.proofs.scan.types.name_stop.Goals as goal

pub is_misnamed-requires-clause-bytes : goal.is_misnamed-requires-clause-bytes
is_misnamed-requires-clause-bytes c = first_pass is_name_byte c.saturating_sub.result c.args.run.now c.split_at.result.0.now c.split_at.ensures.front c.requires.bytes
