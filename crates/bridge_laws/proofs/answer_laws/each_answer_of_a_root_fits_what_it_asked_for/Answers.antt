use Rattle.bridge_laws.proofs.AnswerLaws.{answers_fit}
use Rattle.bridge_laws.proofs.answer_laws.each_answer_of_a_root_fits_what_it_asked_for.Goals as goal

pub returns : goal.returns
returns c = answers_fit
