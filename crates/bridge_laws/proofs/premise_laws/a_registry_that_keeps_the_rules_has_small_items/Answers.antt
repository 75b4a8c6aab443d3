use Rattle.bridge_laws.proofs.SpellableGivenLaws.{registry_small}
use Rattle.bridge_laws.proofs.premise_laws.a_registry_that_keeps_the_rules_has_small_items.Goals as goal

pub returns : goal.returns
returns c reg keeps = registry_small reg keeps
