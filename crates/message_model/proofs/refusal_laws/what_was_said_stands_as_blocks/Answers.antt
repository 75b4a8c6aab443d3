use Rattle.message_model.proofs.SaidBlockLaws.{said_stands, said_is_read_so}
use Rattle.message_model.proofs.refusal_laws.what_was_said_stands_as_blocks.Goals as goal

pub returns-clause-stands : goal.returns-clause-stands
returns-clause-stands c = said_stands

pub returns-clause-read : goal.returns-clause-read
returns-clause-read c reg sound waits said can = said_is_read_so reg sound waits said can
