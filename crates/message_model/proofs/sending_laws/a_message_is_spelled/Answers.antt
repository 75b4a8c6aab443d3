use Rattle.message_model.proofs.StreamLaws.{agree_at_first}
use Rattle.message_model.proofs.SentMessageLaws.{message_is}
use Rattle.message_model.proofs.sending_laws.a_message_is_spelled.Goals as goal

pub returns : goal.returns
returns c = record {
  first = agree_at_first;
  next = λ reg waits m heard spoken sound can agree. message_is reg waits heard spoken sound agree m can.may can.light can.carried can.awaited;
}
