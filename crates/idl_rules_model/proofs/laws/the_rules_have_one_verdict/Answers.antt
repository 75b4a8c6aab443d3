use Rattle.idl_rules_model.proofs.VerdictLaws.{one_verdict}
use Rattle.idl_rules_model.proofs.laws.the_rules_have_one_verdict.Goals as goal

pub returns : goal.returns
returns c = one_verdict
