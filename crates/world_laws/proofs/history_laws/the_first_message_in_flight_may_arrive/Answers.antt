use Rattle.world_laws.proofs.CarriedLaws.{may_a, may_b}
use Rattle.world_laws.proofs.history_laws.the_first_message_in_flight_may_arrive.Goals as goal

pub returns-clause-a : goal.returns-clause-a
returns-clause-a c = may_a

pub returns-clause-b : goal.returns-clause-b
returns-clause-b c = may_b
