use Rattle.urp_model.proofs.PieceLaws.{tid_is}
use Rattle.urp_model.proofs.sending_laws.a_thread_is_spelled.Goals as goal

pub returns : goal.returns
returns c = tid_is
