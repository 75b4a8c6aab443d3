use Rattle.message_model.proofs.SaidLaws.{prefix_stays}
use Rattle.message_model.proofs.said_laws.a_prefix_of_what_was_said_stays_one.Goals as goal

pub returns : goal.returns
returns c = prefix_stays
