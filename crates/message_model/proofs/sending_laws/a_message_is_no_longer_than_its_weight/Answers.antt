use Rattle.message_model.proofs.MessageWeightLaws.{message_bounded}
use Rattle.message_model.proofs.sending_laws.a_message_is_no_longer_than_its_weight.Goals as goal

pub returns : goal.returns
returns c = message_bounded
