use Rattle.idl_text_model.proofs.VerdictLaws.{verdict_said}
use Rattle.idl_text_model.proofs.laws.every_file_has_its_verdict.Goals as goal

pub returns : goal.returns
returns c = verdict_said
