use Rattle.world_laws.proofs.PairThreadLaws.{all_threads}
use Rattle.world_laws.proofs.doing_laws.the_runs_of_a_pair_are_those_of_its_plans.Goals as goal

pub returns : goal.returns
returns c = all_threads
