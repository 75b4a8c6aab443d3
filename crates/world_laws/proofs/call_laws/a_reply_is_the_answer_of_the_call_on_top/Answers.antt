use Rattle.world_laws.proofs.RunAnswers.{answer_a, answer_b}
use Rattle.world_laws.proofs.call_laws.a_reply_is_the_answer_of_the_call_on_top.Goals as goal

pub returns-clause-a : goal.returns-clause-a
returns-clause-a c = answer_a

pub returns-clause-b : goal.returns-clause-b
returns-clause-b c = answer_b
