use Rattle.world_laws.proofs.OutcomeLaws.{tell_a, tell_b}
use Rattle.world_laws.proofs.playing_laws.each_outcome_in_a_pair_is_that_of_the_call_of_its_statement.Goals as goal

pub returns-clause-a : goal.returns-clause-a
returns-clause-a c g ready seed cut p is = tell_a g ready seed cut p is

pub returns-clause-b : goal.returns-clause-b
returns-clause-b c g ready seed cut p is = tell_b g ready seed cut p is
