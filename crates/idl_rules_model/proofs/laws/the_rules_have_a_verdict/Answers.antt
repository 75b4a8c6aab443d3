use Rattle.idl_rules_model.proofs.VerdictLaws.{a_verdict}
use Rattle.idl_rules_model.proofs.laws.the_rules_have_a_verdict.Goals as goal

pub returns : goal.returns
returns c = a_verdict
