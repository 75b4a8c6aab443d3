use Rattle.std.specs.Prelude.{length}
use Rattle.plan_model.specs.Frames.{frames_of}
use Rattle.bridge_frames.proofs.handing.+hand.Given as goal

abbrev pub decreases-hand : goal.decreases-hand
decreases-hand l = length (frames_of l.tid.now l.stacks.now)
