use Rattle.world_laws.proofs.CarriedLaws.{carried_a, carried_b}
use Rattle.world_laws.proofs.history_laws.what_was_said_can_be_carried.Goals as goal

pub returns-clause-a : goal.returns-clause-a
returns-clause-a c g ready es w met well = carried_a g ready es w met well

pub returns-clause-b : goal.returns-clause-b
returns-clause-b c g ready es w met well = carried_b g ready es w met well
