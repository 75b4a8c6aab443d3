use Rattle.idl_text_model.proofs.VerdictLaws.{stuck_once}
use Rattle.idl_text_model.proofs.laws.a_file_is_stuck_at_one_byte.Goals as goal

pub returns : goal.returns
returns c = stuck_once
