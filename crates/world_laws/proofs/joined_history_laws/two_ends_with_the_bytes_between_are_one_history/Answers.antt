use Rattle.world_laws.proofs.Histories.{one_history}
use Rattle.world_laws.proofs.joined_history_laws.two_ends_with_the_bytes_between_are_one_history.Goals as goal

pub returns : goal.returns
returns c = one_history
