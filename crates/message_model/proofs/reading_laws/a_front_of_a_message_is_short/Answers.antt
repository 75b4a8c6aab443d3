use Rattle.message_model.proofs.MessageReadingLaws.{message_agrees}
use Rattle.message_model.proofs.reading_laws.a_front_of_a_message_is_short.Goals as goal
use Rattle.urp_model.specs.Agreement.{triple}
use Rattle.urp_model.proofs.FrontLaws.{triple_maker, short_front}

pub returns : goal.returns
returns c = λ reg waits heard t m front back sound spelled some.
    short_front triple triple_maker (message_agrees reg waits heard sound.named) front back (m, t) spelled some
