use Rattle.message_model.proofs.SpellableMessageLaws.{no_texts_heard, message_spellable, message_small}
use Rattle.message_model.proofs.reading_laws.a_message_that_is_read_is_spellable.Goals as goal

pub returns-clause-first : goal.returns-clause-first
returns-clause-first c = no_texts_heard

pub returns-clause-spellable : goal.returns-clause-spellable
returns-clause-spellable c reg waits heard t m b bytes is spelled = message_spellable reg waits heard m b t bytes is spelled

pub returns-clause-small : goal.returns-clause-small
returns-clause-small c reg waits heard t m b bytes small spelled = message_small reg waits heard m b t bytes small spelled
