use Rattle.message_model.proofs.BodyReadingLaws.{body_stays}
use Rattle.message_model.proofs.refusal_laws.more_bytes_in_a_body_mend_no_fault.Goals as goal

pub returns : goal.returns
returns c = body_stays
