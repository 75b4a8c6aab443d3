use Rattle.std.proofs.Common.{ap, ◌∙◌}
use Rattle.message_model.proofs.MessageReadingLaws.{message_agrees}
use Rattle.urp_model.proofs.ReadFronts.{is_read, found, gives, only}
use Rattle.urp_message.specs.Listening.{Listening}
use Rattle.urp_message.proofs.ListeningLemmas.{memory_alone}
use Rattle.urp_message.proofs.listener.Listener.read.Goals as goal

pub overflow_sub-result : goal.overflow_sub-result
overflow_sub-result g c = (is_read (message_agrees _ _ _ c.requires.named) _ _ _ _ c.in-Ok.ensures).front.shorter

pub returns-in-Ok-clause-gives : goal.returns-in-Ok-clause-gives
returns-in-Ok-clause-gives g c = λ none.
    rw (← ap (λ (l : Listening). l.heard) c.self.view_is) (gives (message_agrees _ _ _ c.requires.named) _ _ _ _ c.in-Ok.ensures)

pub returns-in-Ok-clause-found : goal.returns-in-Ok-clause-found
returns-in-Ok-clause-found g c = λ none.
    rw (← ap (λ (l : Listening). l.heard) c.self.view_is) (found (message_agrees _ _ _ c.requires.named) _ _ _ _ c.in-Ok.ensures)

pub returns-in-Ok-clause-only : goal.returns-in-Ok-clause-only
returns-in-Ok-clause-only g c = λ none m used rest after spelled whole.
    only (message_agrees _ _ _ c.requires.named) _ _ _ _ c.in-Ok.ensures m after used rest
    (rw (ap (λ (l : Listening). l.heard) c.self.view_is) spelled) whole

pub returns-in-Err-clause-only : goal.returns-in-Err-clause-only
returns-in-Err-clause-only g c = λ none m used rest after spelled whole.
    c.refusal_of-refusal.ensures ∙ memory_alone _ _ _ _ c.requires c.in-Err.error c.in-Err.ensures m used rest after
    (rw (ap (λ (l : Listening). l.heard) c.self.view_is) spelled) whole
