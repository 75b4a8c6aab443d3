use Rattle.message_model.proofs.MessageReadingLaws.{message_agrees}
use Rattle.message_model.proofs.reading_laws.messages_are_read_as_they_are_spelled.Goals as goal

pub returns : goal.returns
returns c = λ reg waits heard sound. message_agrees reg waits heard sound.named
