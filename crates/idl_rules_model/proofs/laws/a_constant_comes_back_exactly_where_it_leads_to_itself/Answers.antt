use Rattle.idl_rules_model.proofs.ValueCircleLaws.{comes_back, leads_back}
use Rattle.idl_rules_model.proofs.laws.a_constant_comes_back_exactly_where_it_leads_to_itself.Goals as goal

pub returns : goal.returns
returns c = λ vs v apart in'. (leads_back vs apart v in', comes_back vs apart v in')
