use Rattle.bridge_laws.proofs.ApplyingFates.{statement_answered}
use Rattle.bridge_laws.proofs.answering_laws.a_statement_answers_what_its_frame_ends_with.Goals as goal

pub returns : goal.returns
returns c = statement_answered
