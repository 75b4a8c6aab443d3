use Rattle.std.proofs.Common.{◌∙◌, ap, sym, subst, ◌∷◌, [], ◌++◌, ◌+◌}
use Rattle.std.specs.List.{list_any}
use Rattle.plan_model.specs.Frames.{is_of, pushed}
use Rattle.plan_types.specs.Frames.{frame_of}
use Rattle.call_stacks.specs.Rows.{IsKept, stacks_of}
use Rattle.call_stacks.proofs.PlaceLaws.{no_birth, new_pushed}
use Rattle.call_stacks.proofs.StackLaws.{kept_added, kept_below, kept_same}
use Rattle.call_stacks.proofs.stacks.Stacks.begin.Goals as goal

pub invariant_of-self-in-Err : goal.invariant_of-self-in-Err
invariant_of-self-in-Err c =
    let rows = c.self.inside.stacks in
    let none = no_birth c.args.tid.now rows (ap (list_any (is_of c.args.tid.now)) c.self.view_is ∙ c.requires) in
    subst (λ rows. IsKept rows c.forget.new.births c.self.inside.next) (sym c.in-Err.ensures.kept)
    (kept_same c.args.tid.now rows c.self.inside.births c.note.new.births c.forget.new.births c.next_birth-birth.result c.self.inside.next none c.self.invariant c.in_ok-note.ensures.noted c.forget.ensures)

pub invariant_of-self-in-Ok : goal.invariant_of-self-in-Ok
invariant_of-self-in-Ok c =
    let rows = c.self.inside.stacks in
    let none = no_birth c.args.tid.now rows (ap (list_any (is_of c.args.tid.now)) c.self.view_is ∙ c.requires) in
    let added = c.in-Ok.ensures.added ∙ ap (λ s. rows ++ ((c.next_birth-birth.result, s) ∷ [])) c.in_ok-stack.ensures in
    subst (λ rows. IsKept rows c.note.new.births (c.next_birth-birth.result + 1)) (sym added)
    (kept_added c.args.tid.now (frame_of c.args.frame) rows c.self.inside.births c.note.new.births c.next_birth-birth.result none (kept_below rows c.self.inside.births c.self.inside.next c.next_birth-birth.result c.next_birth-birth.ensures c.self.invariant) c.in_ok-note.ensures.noted)

pub returns-in-Ok-clause-pushed : goal.returns-in-Ok-clause-pushed
returns-in-Ok-clause-pushed c =
    let rows = c.self.inside.stacks in
    let none = no_birth c.args.tid.now rows (ap (list_any (is_of c.args.tid.now)) c.self.view_is ∙ c.requires) in
    let added = c.in-Ok.ensures.added ∙ ap (λ s. rows ++ ((c.next_birth-birth.result, s) ∷ [])) c.in_ok-stack.ensures in
    ap stacks_of added ∙ new_pushed c.args.tid.now c.next_birth-birth.result (frame_of c.args.frame) rows none ∙ ap (pushed c.args.tid.now (frame_of c.args.frame)) c.self.view_is
