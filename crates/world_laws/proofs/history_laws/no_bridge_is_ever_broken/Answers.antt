use Rattle.world_laws.proofs.KeptLaws.{unbroken_a, unbroken_b}
use Rattle.world_laws.proofs.history_laws.no_bridge_is_ever_broken.Goals as goal

pub returns-clause-a : goal.returns-clause-a
returns-clause-a c = unbroken_a

pub returns-clause-b : goal.returns-clause-b
returns-clause-b c = unbroken_b
