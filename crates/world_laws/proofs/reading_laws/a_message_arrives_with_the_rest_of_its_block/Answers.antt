use Rattle.world_laws.proofs.BlockLaws.{arrives_with_block}
use Rattle.world_laws.proofs.reading_laws.a_message_arrives_with_the_rest_of_its_block.Goals as goal

pub returns : goal.returns
returns c = arrives_with_block
