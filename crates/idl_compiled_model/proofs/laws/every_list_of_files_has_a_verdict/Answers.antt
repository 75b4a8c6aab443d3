use Rattle.idl_compiled_model.proofs.VerdictLaws.{a_verdict}
use Rattle.idl_compiled_model.proofs.laws.every_list_of_files_has_a_verdict.Goals as goal

pub returns : goal.returns
returns c = a_verdict
