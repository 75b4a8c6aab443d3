use Rattle.message_model.proofs.BodyFittingLaws.{body_fits, body_spellable, body_small}
use Rattle.message_model.proofs.reading_laws.the_messages_of_a_body_fit.Goals as goal

pub returns-clause-fits : goal.returns-clause-fits
returns-clause-fits c reg ws body heard t ms sound is spelled = body_fits reg sound ws body heard t ms is spelled

pub returns-clause-spellable : goal.returns-clause-spellable
returns-clause-spellable c = body_spellable

pub returns-clause-small : goal.returns-clause-small
returns-clause-small c = body_small
