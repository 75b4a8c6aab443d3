use Rattle.message_model.proofs.MessageReadingLaws.{message_agrees}
use Rattle.message_model.proofs.reading_laws.one_message_stands_at_the_front.Goals as goal
use Rattle.urp_model.specs.Agreement.{triple}
use Rattle.urp_model.proofs.FrontLaws.{triple_maker, one_front}

pub returns : goal.returns
returns c = λ reg waits heard t u m n b d e f sound first second same.
    let one = one_front triple triple_maker (message_agrees reg waits heard sound.named) (m, t) (n, u) b d e f first second same in
    ((λ i. (one.0 i).0), one.1, (λ i. (one.0 i).1), one.2)
