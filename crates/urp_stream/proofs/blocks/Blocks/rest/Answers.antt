use Rattle.urp_stream.proofs.FeedLaws.{parts_stream}
use Rattle.urp_stream.proofs.blocks.Blocks.rest.Goals as goal

pub returns-clause-bounds : goal.returns-clause-bounds
returns-clause-bounds c = rw (← c.self.view_is) (parts_stream _ _ _ c.self.invariant)
