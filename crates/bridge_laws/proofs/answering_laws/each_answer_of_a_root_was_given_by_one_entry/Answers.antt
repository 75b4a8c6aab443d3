use Rattle.bridge_laws.proofs.AnswerGivenLaws.{answer_given}
use Rattle.bridge_laws.proofs.answering_laws.each_answer_of_a_root_was_given_by_one_entry.Goals as goal

pub returns : goal.returns
returns c = answer_given
