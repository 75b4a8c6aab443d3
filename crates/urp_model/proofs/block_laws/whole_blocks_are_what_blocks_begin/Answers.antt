use Rattle.urp_model.proofs.BlockLaws.{whole_block, block_whole}
use Rattle.urp_model.proofs.block_laws.whole_blocks_are_what_blocks_begin.Goals as goal

pub returns : goal.returns
returns c = λ s bytes. (whole_block s bytes, block_whole s)
