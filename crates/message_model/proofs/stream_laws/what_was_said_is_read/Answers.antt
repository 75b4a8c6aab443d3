use Rattle.message_model.proofs.StreamLaws.{all_is_read}
use Rattle.message_model.proofs.stream_laws.what_was_said_is_read.Goals as goal

pub returns : goal.returns
returns c = all_is_read
