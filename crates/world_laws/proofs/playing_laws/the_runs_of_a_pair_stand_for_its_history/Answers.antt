use Rattle.world_laws.proofs.StandLaws.{stand_a, stand_b}
use Rattle.world_laws.proofs.playing_laws.the_runs_of_a_pair_stand_for_its_history.Goals as goal

pub returns-clause-a : goal.returns-clause-a
returns-clause-a c = stand_a

pub returns-clause-b : goal.returns-clause-b
returns-clause-b c = stand_b
