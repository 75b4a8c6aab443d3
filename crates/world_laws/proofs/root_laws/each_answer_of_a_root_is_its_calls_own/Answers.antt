use Rattle.world_laws.proofs.RootAnswers.{own_a, own_b}
use Rattle.world_laws.proofs.root_laws.each_answer_of_a_root_is_its_calls_own.Goals as goal

pub returns-clause-a : goal.returns-clause-a
returns-clause-a c = own_a

pub returns-clause-b : goal.returns-clause-b
returns-clause-b c = own_b
