use Rattle.message_model.proofs.StreamLaws.{read_back}
use Rattle.message_model.proofs.sending_laws.a_message_is_read_again.Goals as goal

pub returns : goal.returns
returns c = λ reg waits m heard spoken rest sound can agree. read_back reg sound waits heard m spoken rest can agree
