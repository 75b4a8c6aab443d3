use Rattle.message_model.proofs.MessageReadingLaws.{message_agrees}
use Rattle.message_model.proofs.reading_laws.no_message_begins_with_what_is_broken.Goals as goal
use Rattle.urp_model.specs.Agreement.{triple}
use Rattle.urp_model.proofs.FrontLaws.{triple_maker, none_spelled}

pub returns : goal.returns
returns c = λ reg waits heard t m bytes more used rest reason sound broken spelled same.
    none_spelled triple triple_maker (message_agrees reg waits heard sound.named) bytes more used rest reason (m, t) broken spelled same
