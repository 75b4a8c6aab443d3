use Rattle.world_laws.proofs.StandLaws.{lines_a, lines_b}
use Rattle.world_laws.proofs.playing_laws.the_runs_of_a_pair_have_the_lines_of_its_history.Goals as goal

pub returns-clause-a : goal.returns-clause-a
returns-clause-a c = lines_a

pub returns-clause-b : goal.returns-clause-b
returns-clause-b c = lines_b
