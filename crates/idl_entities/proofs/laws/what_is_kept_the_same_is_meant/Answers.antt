use Rattle.idl_entities.proofs.SameLaws.{entity_same, told_same}
use Rattle.idl_entities.proofs.laws.what_is_kept_the_same_is_meant.Goals as goal

pub returns-clause-entity : goal.returns-clause-entity
returns-clause-entity c = entity_same

pub returns-clause-told : goal.returns-clause-told
returns-clause-told c = told_same
