use Rattle.registry_text_model.specs.Rules as rule
use Rattle.idl_rules_model.proofs.BrokenLaws.{kept_where_broken_nowhere, broken_nowhere_where_kept}
use Rattle.idl_rules_model.proofs.laws.types_are_broken_nowhere_exactly_where_all_keep_them.Goals as goal

pub returns-clause-kept : goal.returns-clause-kept
returns-clause-kept c = λ trees names files resolved round nowhere. kept_where_broken_nowhere trees names rule.types files resolved (λ is. round) nowhere

pub returns-clause-nowhere : goal.returns-clause-nowhere
returns-clause-nowhere c = λ trees names files resolved some kept unseen. broken_nowhere_where_kept trees names rule.types files resolved (λ is. some) kept unseen
