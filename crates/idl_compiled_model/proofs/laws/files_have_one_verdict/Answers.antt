use Rattle.idl_compiled_model.proofs.VerdictLaws.{one_verdict}
use Rattle.idl_compiled_model.proofs.laws.files_have_one_verdict.Goals as goal

pub returns : goal.returns
returns c = one_verdict
