use Rattle.world_laws.proofs.NowhereLaws.{nowhere_of_neither}
use Rattle.world_laws.proofs.thread_laws.a_thread_of_neither_end_is_nowhere.Goals as goal

pub returns : goal.returns
returns c = nowhere_of_neither
