use Rattle.world_laws.proofs.GivingLaws.{ends_finished_a, ends_finished_b}
use Rattle.world_laws.proofs.playing_laws.a_pair_ends_with_its_runs_finished.Goals as goal

pub returns-clause-a : goal.returns-clause-a
returns-clause-a c = ends_finished_a

pub returns-clause-b : goal.returns-clause-b
returns-clause-b c = ends_finished_b
