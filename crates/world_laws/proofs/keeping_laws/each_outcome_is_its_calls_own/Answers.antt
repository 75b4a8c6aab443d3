use Rattle.world_laws.proofs.Histories.{outcome_a, outcome_b}
use Rattle.world_laws.proofs.keeping_laws.each_outcome_is_its_calls_own.Goals as goal

pub returns-clause-a : goal.returns-clause-a
returns-clause-a c = outcome_a

pub returns-clause-b : goal.returns-clause-b
returns-clause-b c = outcome_b
