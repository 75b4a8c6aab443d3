use Rattle.world_laws.proofs.Histories.{history_leads}
use Rattle.world_laws.proofs.joined_history_laws.entries_that_both_ends_replay_are_a_history.Goals as goal

pub returns : goal.returns
returns c = history_leads
