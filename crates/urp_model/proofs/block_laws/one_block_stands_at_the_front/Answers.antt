use Rattle.urp_model.proofs.BlockLaws.{spell_block-front}
use Rattle.urp_model.proofs.block_laws.one_block_stands_at_the_front.Goals as goal

pub returns : goal.returns
returns c = spell_block-front
