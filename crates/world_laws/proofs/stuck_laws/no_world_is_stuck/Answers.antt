use Rattle.world_laws.proofs.StuckLaws.{stuck_a, stuck_b}
use Rattle.world_laws.proofs.stuck_laws.no_world_is_stuck.Goals as goal

pub returns-clause-a : goal.returns-clause-a
returns-clause-a c = stuck_a

pub returns-clause-b : goal.returns-clause-b
returns-clause-b c = stuck_b
