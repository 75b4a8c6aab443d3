use Rattle.std.proofs.Common.{◌∙◌, ap, sym, subst}
use Rattle.plan_model.specs.Frames.{top, first_frame}
use Rattle.call_stacks.specs.WaitingCalls.{HaveOwnTids}
use Rattle.call_stacks.proofs.PlaceLaws.{place_frames, no_frames, own_tids, called}
use Rattle.call_stacks.proofs.StackLaws.{at_place, nowhere}
use Rattle.call_stacks.proofs.stacks.Stacks.waiting_call.Goals as goal

pub returns-clause-call : goal.returns-clause-call
returns-clause-call c =
    let rows = c.self.inside.stacks in
    let at = at_place c.args.tid.now c.in-Some.birth rows c.self.inside.births c.self.inside.next c.self.invariant c.in-Some.ensures in
    c.call_in.ensures ∙ ap called (c.top.ensures ∙ ap first_frame (place_frames c.args.tid.now c.in-Some.birth rows at) ∙ ap (top c.args.tid.now) c.self.view_is)

pub returns-in_default-clause-call : goal.returns-in_default-clause-call
returns-in_default-clause-call c =
    let rows = c.self.inside.stacks in
    sym (ap called (ap first_frame (no_frames c.args.tid.now rows (nowhere c.args.tid.now 0 rows c.self.inside.births c.self.inside.next c.self.invariant c.in_default.ensures))))
    ∙ ap (λ ss. called (top c.args.tid.now ss)) c.self.view_is

pub returns-clause-own : goal.returns-clause-own
returns-clause-own c = subst HaveOwnTids c.self.view_is (own_tids c.self.inside.stacks c.self.invariant.alone)

pub returns-in_default-clause-own : goal.returns-in_default-clause-own
returns-in_default-clause-own c = subst HaveOwnTids c.self.view_is (own_tids c.self.inside.stacks c.self.invariant.alone)
