use Rattle.idl_rules_model.proofs.KeptLaws.{what_breaks_none_keeps_all}
use Rattle.idl_rules_model.proofs.laws.what_breaks_no_rule_keeps_the_rules.Goals as goal

pub returns : goal.returns
returns c = what_breaks_none_keeps_all
