use Rattle.std.proofs.Common.{◌∙◌, ap, sym, length}
use Rattle.plan_model.specs.Frames.{depth_of}
use Rattle.call_stacks.proofs.PlaceLaws.{place_frames, no_frames}
use Rattle.call_stacks.proofs.StackLaws.{at_place, nowhere}
use Rattle.call_stacks.proofs.stacks.Stacks.depth.Goals as goal

pub returns-in-Some : goal.returns-in-Some
returns-in-Some c =
    let rows = c.self.inside.stacks in
    let at = at_place c.args.tid.now c.in-Some.birth rows c.self.inside.births c.self.inside.next c.self.invariant c.in-Some.ensures in
    c.depth.ensures ∙ ap length (place_frames c.args.tid.now c.in-Some.birth rows at) ∙ ap (depth_of c.args.tid.now) c.self.view_is

pub returns-in-None : goal.returns-in-None
returns-in-None c =
    let rows = c.self.inside.stacks in
    sym (ap length (no_frames c.args.tid.now rows (nowhere c.args.tid.now 0 rows c.self.inside.births c.self.inside.next c.self.invariant c.in-None.ensures)))
    ∙ ap (depth_of c.args.tid.now) c.self.view_is
