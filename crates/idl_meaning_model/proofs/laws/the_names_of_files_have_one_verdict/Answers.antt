use Rattle.idl_meaning_model.proofs.FaultLaws.{one_verdict}
use Rattle.idl_meaning_model.proofs.laws.the_names_of_files_have_one_verdict.Goals as goal

pub returns : goal.returns
returns c = one_verdict
