use Rattle.idl_rules_model.proofs.BrokenLaws.{kept_where_broken_nowhere, broken_nowhere_where_kept}
use Rattle.idl_rules_model.proofs.laws.a_rule_is_broken_nowhere_exactly_where_all_keep_it.Goals as goal

pub returns : goal.returns
returns c = λ trees names r files resolved other. (
  λ nowhere. kept_where_broken_nowhere trees names r files resolved (λ is. absurd (other is)) nowhere,
  λ kept. broken_nowhere_where_kept trees names r files resolved (λ is. absurd (other is)) kept.0 kept.1,
)
