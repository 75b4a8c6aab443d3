use Rattle.std.proofs.Common.{ap}
use Rattle.urp_message.specs.Speaking.{Saying}
use Rattle.urp_message.proofs.SpeakingLemmas.{read_again, block_more, spoken_on}
use Rattle.urp_message.proofs.speaker.Speaker.write.Goals as goal

pub returns-in-Ok-clause-read : goal.returns-in-Ok-clause-read
returns-in-Ok-clause-read c =
    rw (← ap (λ (s : Saying). s.spoken) c.self.view_is)
    (read_again _ _ _ _ _ c.requires.sound c.requires.may c.requires.light c.in-Ok.ensures.carried c.in-Ok.ensures.bytes c.in-Ok.ensures.after)

pub returns-in-Ok-clause-grows : goal.returns-in-Ok-clause-grows
returns-in-Ok-clause-grows c = block_more _ _ _ _ _ c.in-Ok.ensures.bytes (ap (λ (s : Saying). s.spoken) c.self.view_is)

pub returns-in-Ok-clause-goes_on : goal.returns-in-Ok-clause-goes_on
returns-in-Ok-clause-goes_on c = spoken_on _ _ _ _ _ c.in-Ok.ensures.after (ap (λ (s : Saying). s.spoken) c.self.view_is)
