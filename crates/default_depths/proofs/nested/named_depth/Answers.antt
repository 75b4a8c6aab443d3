use Rattle.default_depths.proofs.DepthLaws.{gap_depth}
use Rattle.default_depths.proofs.nested.named_depth.Goals as goal

pub returns-in-Err : goal.returns-in-Err
returns-in-Err c = gap_depth _ c.requires.sound _ _ _ c.entities.ensures.all c.in-Err.ensures.gap
