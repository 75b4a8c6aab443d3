use Rattle.std.proofs.Common.{◌∙◌, ap, sym, subst, refl}
use Rattle.std.specs.List.{list_any}
use Rattle.plan_model.specs.Frames.{is_of, pushed}
use Rattle.plan_types.specs.Frames.{frame_of}
use Rattle.call_stacks.specs.Rows.{IsKept, stacks_of, one_more}
use Rattle.call_stacks.proofs.PlaceLaws.{no_stack, has_stack, place_pushed}
use Rattle.call_stacks.proofs.StackLaws.{at_place, nowhere, kept_changed}
use Rattle.call_stacks.proofs.stacks.Stacks.push.Goals as goal

pub begin-requires : goal.begin-requires
begin-requires c =
    let rows = c.self.inside.stacks in
    ap (list_any (is_of c.args.tid.now)) (sym c.self.view_is) ∙ no_stack c.args.tid.now rows (nowhere c.args.tid.now 0 rows c.self.inside.births c.self.inside.next c.self.invariant c.in_default.ensures)

pub push-requires : goal.push-requires
push-requires c =
    let rows = c.self.inside.stacks in
    has_stack c.args.tid.now c.in-Some.birth rows (at_place c.args.tid.now c.in-Some.birth rows c.self.inside.births c.self.inside.next c.self.invariant c.in-Some.ensures)

pub invariant_of-self-2 : goal.invariant_of-self-2
invariant_of-self-2 c =
    let rows = c.self.inside.stacks in
    subst (λ rows. IsKept rows c.self.inside.births c.self.inside.next) (sym c.in_ok-push.ensures.pushed)
    (kept_changed c.in-Some.birth (one_more (frame_of c.args.frame)) (λ _. refl) rows c.self.inside.births c.self.inside.next c.self.invariant)

pub returns-clause-pushed : goal.returns-clause-pushed
returns-clause-pushed c =
    let rows = c.self.inside.stacks in
    let at = at_place c.args.tid.now c.in-Some.birth rows c.self.inside.births c.self.inside.next c.self.invariant c.in-Some.ensures in
    ap stacks_of c.in_ok-push.ensures.pushed ∙ place_pushed c.args.tid.now c.in-Some.birth (frame_of c.args.frame) rows at ∙ ap (pushed c.args.tid.now (frame_of c.args.frame)) c.self.view_is
