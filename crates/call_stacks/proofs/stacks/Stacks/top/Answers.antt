use Rattle.std.proofs.Common.{◌∙◌, ap, sym}
use Rattle.plan_model.specs.Frames.{top, first_frame}
use Rattle.call_stacks.proofs.PlaceLaws.{place_frames, no_frames}
use Rattle.call_stacks.proofs.StackLaws.{at_place, nowhere}
use Rattle.call_stacks.proofs.stacks.Stacks.top.Goals as goal

pub returns : goal.returns
returns c =
    let rows = c.self.inside.stacks in
    let at = at_place c.args.tid.now c.in-Some.birth rows c.self.inside.births c.self.inside.next c.self.invariant c.in-Some.ensures in
    c.top.ensures ∙ ap first_frame (place_frames c.args.tid.now c.in-Some.birth rows at) ∙ ap (top c.args.tid.now) c.self.view_is

pub returns-in_default : goal.returns-in_default
returns-in_default c =
    let rows = c.self.inside.stacks in
    sym (ap first_frame (no_frames c.args.tid.now rows (nowhere c.args.tid.now 0 rows c.self.inside.births c.self.inside.next c.self.invariant c.in_default.ensures)))
    ∙ ap (top c.args.tid.now) c.self.view_is
