use Rattle.bridge_laws.proofs.RootLines.{threads_typed}
use Rattle.bridge_laws.proofs.plan_laws.roots_of_a_plan_that_keeps_the_rules_are_typed.Goals as goal

pub returns : goal.returns
returns c = threads_typed
