use Rattle.std.proofs.Common.{subst, ◌<◌, ◌≤◌}
use Rattle.plan_model.specs.Frames.{frames_of}
use Rattle.bridge_frames.proofs.StackLemmas.{all_put, one_less_put, one_less, nothing_put}
use Rattle.bridge_frames.proofs.tops.end_thread.Goals as goal

pub loop-stacks-init : goal.loop-stacks-init
loop-stacks-init c = all_put c.args.tid.now c.args.stacks.now c.requires

pub loop-stacks-preserved : goal.loop-stacks-preserved
loop-stacks-preserved c =
    one_less_put c.args.tid.now c.args.stacks.now c.loop-stacks.stacks c.pop.new.self (subst (λ n. 0 < n) c.depth.ensures c.loop-stacks-test.true) c.loop-stacks.invariant c.pop.ensures.popped c.pop.ensures.below

pub loop-stacks-smaller : goal.loop-stacks-smaller
loop-stacks-smaller c =
    one_less (frames_of c.args.tid.now c.loop-stacks.stacks) (frames_of c.args.tid.now c.pop.new.self) (subst (λ n. 0 < n) c.depth.ensures c.loop-stacks-test.true) c.pop.ensures.below

pub returns : goal.returns
returns c = nothing_put c.args.tid.now c.args.stacks.now c.loop-stacks.stacks (subst (λ n. n ≤ 0) c.depth.ensures c.loop-stacks-test.false) c.loop-stacks.invariant
