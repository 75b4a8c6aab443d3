use Rattle.world_laws.proofs.Histories.{given_next_a, given_next_b}
use Rattle.world_laws.proofs.going_laws.what_a_root_enters_can_be_carried.Goals as goal

pub returns-clause-a : goal.returns-clause-a
returns-clause-a c = given_next_a

pub returns-clause-b : goal.returns-clause-b
returns-clause-b c = given_next_b
