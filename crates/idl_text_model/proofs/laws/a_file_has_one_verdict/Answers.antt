use Rattle.idl_text_model.proofs.VerdictLaws.{verdicts_have_one}
use Rattle.idl_text_model.proofs.laws.a_file_has_one_verdict.Goals as goal

pub returns : goal.returns
returns c = verdicts_have_one
