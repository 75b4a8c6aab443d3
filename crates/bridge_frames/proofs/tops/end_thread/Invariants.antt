use Rattle.std.specs.Prelude.{◌≡◌, length}
use Rattle.plan_model.specs.Frames.{frames_of}
use Rattle.bridge_model.specs.Stacks.{puts_frames}
use Rattle.bridge_frames.proofs.tops.end_thread.Given as goal

-- those that are left are the thread's
abbrev pub invariant-loop-stacks : goal.invariant-loop-stacks
invariant-loop-stacks l = l.stacks ≡ puts_frames l.tid (frames_of l.tid l.stacks) l.fn.stacks

abbrev pub decreases-loop-stacks : goal.decreases-loop-stacks
decreases-loop-stacks l = length (frames_of l.tid l.stacks)
