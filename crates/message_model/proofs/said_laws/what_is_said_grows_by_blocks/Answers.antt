use Rattle.message_model.proofs.SaidLaws.{spell_append, spell_more, spoken_more}
use Rattle.message_model.proofs.said_laws.what_is_said_grows_by_blocks.Goals as goal

pub returns-clause-all : goal.returns-clause-all
returns-clause-all c = spell_append

pub returns-clause-one : goal.returns-clause-one
returns-clause-one c = spell_more

pub returns-clause-after : goal.returns-clause-after
returns-clause-after c = spoken_more
