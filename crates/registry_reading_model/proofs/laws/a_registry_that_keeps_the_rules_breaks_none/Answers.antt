use Rattle.registry_reading_model.proofs.NoneOfRegistry.{breaks_none}
use Rattle.registry_reading_model.proofs.laws.a_registry_that_keeps_the_rules_breaks_none.Goals as goal

pub returns : goal.returns
returns c = λ bytes rule line reg broken keeps has rising same. breaks_none bytes reg keeps rising same has rule line broken
