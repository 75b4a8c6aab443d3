use Rattle.std.proofs.Common.{◌∙◌, ap, sym, refl, length, subst, ◌<◌, ◌≤◌}
use Rattle.plan_model.specs.Frames.{top, first_frame, popped, frames_of}
use Rattle.call_stacks.specs.Rows.{stacks_of, one_less}
use Rattle.call_stacks.proofs.PlaceLaws.{has_stack, place_frames, no_frames, place_popped, place_ended, none_popped, below_popped}
use Rattle.call_stacks.proofs.StackLaws.{at_place, nowhere, kept_changed, kept_without}
use Rattle.call_stacks.proofs.stacks.Stacks.pop.Goals as goal

pub returns-in_default-clause-top : goal.returns-in_default-clause-top
returns-in_default-clause-top c =
    let rows = c.self.inside.stacks in
    sym (ap first_frame (no_frames c.args.tid.now rows (nowhere c.args.tid.now 0 rows c.self.inside.births c.self.inside.next c.self.invariant c.in_default.ensures)))
    ∙ ap (top c.args.tid.now) c.self.view_is

pub returns-in_default-clause-popped : goal.returns-in_default-clause-popped
returns-in_default-clause-popped c =
    let rows = c.self.inside.stacks in
    sym c.self.view_is ∙ none_popped c.args.tid.now rows (nowhere c.args.tid.now 0 rows c.self.inside.births c.self.inside.next c.self.invariant c.in_default.ensures)
    ∙ ap (popped c.args.tid.now) c.self.view_is

pub pop-requires : goal.pop-requires
pop-requires c =
    let rows = c.self.inside.stacks in
    has_stack c.args.tid.now c.in-Some.birth rows (at_place c.args.tid.now c.in-Some.birth rows c.self.inside.births c.self.inside.next c.self.invariant c.in-Some.ensures)

pub invariant_of-self : goal.invariant_of-self
invariant_of-self c =
    let rows = c.self.inside.stacks in
    subst (λ rows. Rattle.call_stacks.specs.Rows.IsKept rows c.self.inside.births c.self.inside.next) (sym c.pop.ensures.popped) (kept_changed c.in-Some.birth one_less (λ _. refl) rows c.self.inside.births c.self.inside.next c.self.invariant)

pub returns-then-depth-gt1-clause-top : goal.returns-then-depth-gt1-clause-top
returns-then-depth-gt1-clause-top c =
    let rows = c.self.inside.stacks in
    let at = at_place c.args.tid.now c.in-Some.birth rows c.self.inside.births c.self.inside.next c.self.invariant c.in-Some.ensures in
    c.pop.ensures.top ∙ ap first_frame (place_frames c.args.tid.now c.in-Some.birth rows at) ∙ ap (top c.args.tid.now) c.self.view_is

pub returns-then-depth-gt1-clause-popped : goal.returns-then-depth-gt1-clause-popped
returns-then-depth-gt1-clause-popped c =
    let rows = c.self.inside.stacks in
    let at = at_place c.args.tid.now c.in-Some.birth rows c.self.inside.births c.self.inside.next c.self.invariant c.in-Some.ensures in
    let more : 1 < length (frames_of c.args.tid.now (stacks_of rows)) = subst (λ n. 1 < n) (c.depth.ensures ∙ ap length (place_frames c.args.tid.now c.in-Some.birth rows at)) c.if-depth-gt1.true in
    ap stacks_of c.pop.ensures.popped ∙ place_popped c.args.tid.now c.in-Some.birth rows at more ∙ ap (popped c.args.tid.now) c.self.view_is

pub end-requires : goal.end-requires
end-requires c =
    let rows = c.self.inside.stacks in
    has_stack c.args.tid.now c.in-Some.birth rows (at_place c.args.tid.now c.in-Some.birth rows c.self.inside.births c.self.inside.next c.self.invariant c.in-Some.ensures)

pub invariant_of-self-2 : goal.invariant_of-self-2
invariant_of-self-2 c =
    let rows = c.self.inside.stacks in
    let at = at_place c.args.tid.now c.in-Some.birth rows c.self.inside.births c.self.inside.next c.self.invariant c.in-Some.ensures in
    subst (λ rows. Rattle.call_stacks.specs.Rows.IsKept rows c.forget.new.births c.self.inside.next) (sym c.end.ensures.ended)
    (kept_without c.args.tid.now c.in-Some.birth rows c.self.inside.births c.forget.new.births c.self.inside.next at c.self.invariant c.forget.ensures)

pub returns-clause-top : goal.returns-clause-top
returns-clause-top c =
    let rows = c.self.inside.stacks in
    let at = at_place c.args.tid.now c.in-Some.birth rows c.self.inside.births c.self.inside.next c.self.invariant c.in-Some.ensures in
    c.end.ensures.top ∙ ap first_frame (place_frames c.args.tid.now c.in-Some.birth rows at) ∙ ap (top c.args.tid.now) c.self.view_is

pub returns-clause-popped : goal.returns-clause-popped
returns-clause-popped c =
    let rows = c.self.inside.stacks in
    let at = at_place c.args.tid.now c.in-Some.birth rows c.self.inside.births c.self.inside.next c.self.invariant c.in-Some.ensures in
    let few : length (frames_of c.args.tid.now (stacks_of rows)) ≤ 1 = subst (λ n. n ≤ 1) (c.depth.ensures ∙ ap length (place_frames c.args.tid.now c.in-Some.birth rows at)) c.if-depth-gt1.false in
    ap stacks_of c.end.ensures.ended ∙ place_ended c.args.tid.now c.in-Some.birth rows at few ∙ ap (popped c.args.tid.now) c.self.view_is

pub returns-in_default-clause-below : goal.returns-in_default-clause-below
returns-in_default-clause-below c =
    below_popped c.args.tid.now c.self.inside.stacks _ _ c.self.view_is c.self.invariant.alone (returns-in_default-clause-popped c)

pub returns-then-depth-gt1-clause-below : goal.returns-then-depth-gt1-clause-below
returns-then-depth-gt1-clause-below c =
    below_popped c.args.tid.now c.self.inside.stacks _ _ c.self.view_is c.self.invariant.alone (returns-then-depth-gt1-clause-popped c)

pub returns-clause-below : goal.returns-clause-below
returns-clause-below c =
    below_popped c.args.tid.now c.self.inside.stacks _ _ c.self.view_is c.self.invariant.alone (returns-clause-popped c)
