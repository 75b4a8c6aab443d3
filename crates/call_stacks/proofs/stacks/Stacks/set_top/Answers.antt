use Rattle.std.proofs.Common.{◌∙◌, ap, sym, refl, length, subst, ◌<◌}
use Rattle.plan_model.specs.Frames.{top, first_frame, frames_of, with_top}
use Rattle.plan_types.specs.Frames.{frame_of}
use Rattle.call_stacks.specs.Rows.{IsKept, stacks_of, topped}
use Rattle.call_stacks.proofs.PlaceLaws.{place_frames, no_frames, place_topped, some_frames, no_top}
use Rattle.call_stacks.proofs.StackLaws.{at_place, nowhere, kept_changed}
use Rattle.call_stacks.proofs.stacks.Stacks.set_top.Goals as goal

pub unreachable-requires : goal.unreachable-requires
unreachable-requires c =
    let rows = c.self.inside.stacks in
    no_top (frames_of c.args.tid.now c.args.self.now) (frames_of c.args.tid.now (stacks_of rows)) (ap (frames_of c.args.tid.now) (sym c.self.view_is))
    (no_frames c.args.tid.now rows (nowhere c.args.tid.now 0 rows c.self.inside.births c.self.inside.next c.self.invariant c.in_default.ensures)) c.requires

pub set_top-requires : goal.set_top-requires
set_top-requires c =
    let rows = c.self.inside.stacks in
    let at = at_place c.args.tid.now c.in-Some.birth rows c.self.inside.births c.self.inside.next c.self.invariant c.in-Some.ensures in
    subst (λ fs. 0 < length fs) (sym (place_frames c.args.tid.now c.in-Some.birth rows at ∙ ap (frames_of c.args.tid.now) c.self.view_is)) (some_frames (frames_of c.args.tid.now c.args.self.now) c.requires)

pub invariant_of-self : goal.invariant_of-self
invariant_of-self c =
    let rows = c.self.inside.stacks in
    subst (λ rows. IsKept rows c.self.inside.births c.self.inside.next) (sym c.set_top.ensures.topped)
    (kept_changed c.in-Some.birth (topped (frame_of c.args.frame)) (λ _. refl) rows c.self.inside.births c.self.inside.next c.self.invariant)

pub returns-clause-was : goal.returns-clause-was
returns-clause-was c =
    let rows = c.self.inside.stacks in
    let at = at_place c.args.tid.now c.in-Some.birth rows c.self.inside.births c.self.inside.next c.self.invariant c.in-Some.ensures in
    c.set_top.ensures.top ∙ ap first_frame (place_frames c.args.tid.now c.in-Some.birth rows at) ∙ ap (top c.args.tid.now) c.self.view_is

pub returns-clause-set : goal.returns-clause-set
returns-clause-set c =
    let rows = c.self.inside.stacks in
    let at = at_place c.args.tid.now c.in-Some.birth rows c.self.inside.births c.self.inside.next c.self.invariant c.in-Some.ensures in
    ap stacks_of c.set_top.ensures.topped ∙ place_topped c.args.tid.now c.in-Some.birth (frame_of c.args.frame) rows at ∙ ap (with_top c.args.tid.now (frame_of c.args.frame)) c.self.view_is
