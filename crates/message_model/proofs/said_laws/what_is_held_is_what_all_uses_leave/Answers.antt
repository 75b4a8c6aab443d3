use Rattle.message_model.proofs.SaidLaws.{all_left}
use Rattle.message_model.proofs.said_laws.what_is_held_is_what_all_uses_leave.Goals as goal

pub returns : goal.returns
returns c = all_left
