use Rattle.world_laws.proofs.BlockArrivals.{block_a, block_b}
use Rattle.world_laws.proofs.history_laws.the_first_message_in_flight_arrives_with_its_block.Goals as goal

pub returns-clause-a : goal.returns-clause-a
returns-clause-a c = block_a

pub returns-clause-b : goal.returns-clause-b
returns-clause-b c = block_b
