use Rattle.bridge_laws.proofs.Naming.{rules_tell_names}
use Rattle.bridge_laws.proofs.premise_laws.a_registry_that_keeps_the_rules_tells_names_apart.Goals as goal

pub returns : goal.returns
returns c = rules_tell_names
