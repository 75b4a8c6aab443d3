use Rattle.std.proofs.Common.{◌∙◌, ap, arith}
use Rattle.plan_model.specs.Frames.{nth_tid, ready}
use Rattle.call_stacks.specs.Rows.{rows_of, stacks_of}
use Rattle.call_stacks.proofs.ReadyLaws.{all_ready, first_nth, later_nth, none_nth, birth_small}
use Rattle.call_stacks.proofs.by_birth.ByBirth.ready.Goals as goal

pub loop-birth-init : goal.loop-birth-init
loop-birth-init c = record { same = ap (λ ss. nth_tid ss c.args.nth) (all_ready (rows_of c.self.inside.entries.entries)); within = omega arith }

pub returns-then-left-eq0 : goal.returns-then-left-eq0
returns-then-left-eq0 c =
    let s = c.self.inside in
    c.tid.ensures ∙ first_nth (rows_of s.entries.entries) s.ready s.waiting c.loop-birth.from c.self.invariant c.in-Some.birth c.in-Some.ensures c.loop-birth.left c.if-left-eq0.true
    ∙ c.loop-birth.invariant.same ∙ ap (λ rows. nth_tid (ready (stacks_of rows)) c.args.nth) c.self.view_is

pub overflow_add-from : goal.overflow_add-from
overflow_add-from c =
    let s = c.self.inside in
    let small = birth_small (rows_of s.entries.entries) s.ready s.waiting c.loop-birth.from c.self.invariant c.in-Some.birth c.in-Some.ensures in
    omega (arith, small)

pub loop-birth-preserved : goal.loop-birth-preserved
loop-birth-preserved c =
    let s = c.self.inside in
    let small = birth_small (rows_of s.entries.entries) s.ready s.waiting c.loop-birth.from c.self.invariant c.in-Some.birth c.in-Some.ensures in
    record {
      same = later_nth (rows_of s.entries.entries) s.ready s.waiting c.loop-birth.from c.self.invariant c.in-Some.birth c.in-Some.ensures c.loop-birth.left c.if-left-eq0.false ∙ c.loop-birth.invariant.same;
      within = omega (arith, small);
    }

pub returns : goal.returns
returns c =
    let s = c.self.inside in
    none_nth (rows_of s.entries.entries) s.ready s.waiting c.loop-birth.from c.self.invariant c.in_default.ensures c.loop-birth.left
    ∙ c.loop-birth.invariant.same ∙ ap (λ rows. nth_tid (ready (stacks_of rows)) c.args.nth) c.self.view_is
