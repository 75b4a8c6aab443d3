use Rattle.std.proofs.Common.{◌∙◌, sym, subst, Ok, map}
use Rattle.behaviour.specs.Roots.{run_of}
use Rattle.bridge_endpoint.specs.Journals.{Endpoint}
use Rattle.answering.specs.Ends.{AppliesFirst, MovesFirst}
use Rattle.answering.specs.Running.{AreRoots}
use Rattle.answering.proofs.FirstLaws.{did_method, did_object, did_root, drained_first, past_roots}
use Rattle.answering.proofs.doing.do_first.Goals as goal

pub move_first-requires : goal.move_first-requires
move_first-requires g c =
    subst (λ (z : Endpoint). AreRoots z (map run_of c.args.runs.now.items)) (sym (subst (λ b. AppliesFirst c.args.end.now c.apply_first.new.end (Ok b)) c.if-branch.false c.in_ok-apply_first.ensures).1) c.requires

pub returns-then-branch-clause-does : goal.returns-then-branch-clause-does
returns-then-branch-clause-does g c =
    did_method c.args.end.now c.apply_first.new.end (map run_of c.args.runs.now.items) (g.O.Sink.taken c.args.output.now)
    (subst (λ b. AppliesFirst c.args.end.now c.apply_first.new.end (Ok b)) c.if-branch.true c.in_ok-apply_first.ensures)

pub returns-then-branch-2-clause-does : goal.returns-then-branch-2-clause-does
returns-then-branch-2-clause-does g c =
    did_root c.args.end.now c.apply_first.new.end c.move_first.new.end (map run_of c.args.runs.now.items) (map run_of c.move_first.new.runs.items) (g.O.Sink.taken c.args.output.now)
    (subst (λ b. AppliesFirst c.args.end.now c.apply_first.new.end (Ok b)) c.if-branch.false c.in_ok-apply_first.ensures)
    (subst
    (λ b. MovesFirst c.apply_first.new.end c.move_first.new.end (map run_of c.args.runs.now.items) (map run_of c.move_first.new.runs.items) (Ok b))
    c.if-branch-2.true c.in_ok-move_first.ensures)

pub returns-then-is_some-clause-does : goal.returns-then-is_some-clause-does
returns-then-is_some-clause-does g c =
    did_object c.args.end.now c.move_first.new.end c.reap.new.self (map run_of c.args.runs.now.items) (map run_of c.move_first.new.runs.items) (g.O.Sink.taken c.args.output.now)
    c.reap.result
    (past_roots c.args.end.now c.apply_first.new.end c.move_first.new.end (map run_of c.args.runs.now.items) (map run_of c.move_first.new.runs.items)
    (subst (λ b. AppliesFirst c.args.end.now c.apply_first.new.end (Ok b)) c.if-branch.false c.in_ok-apply_first.ensures)
    (subst
    (λ b. MovesFirst c.apply_first.new.end c.move_first.new.end (map run_of c.args.runs.now.items) (map run_of c.move_first.new.runs.items) (Ok b))
    c.if-branch-2.false c.in_ok-move_first.ensures))
    c.reap.ensures.object c.reap.ensures.entered (sym c.is_some.ensures ∙ c.if-is_some.true)

pub returns-clause-does : goal.returns-clause-does
returns-clause-does g c =
    drained_first c.args.end.now c.move_first.new.end c.reap.new.self c.drain_first.new.end (map run_of c.args.runs.now.items) (map run_of c.move_first.new.runs.items) _ _
    c.reap.result c.drain_first.result
    (past_roots c.args.end.now c.apply_first.new.end c.move_first.new.end (map run_of c.args.runs.now.items) (map run_of c.move_first.new.runs.items)
    (subst (λ b. AppliesFirst c.args.end.now c.apply_first.new.end (Ok b)) c.if-branch.false c.in_ok-apply_first.ensures)
    (subst
    (λ b. MovesFirst c.apply_first.new.end c.move_first.new.end (map run_of c.args.runs.now.items) (map run_of c.move_first.new.runs.items) (Ok b))
    c.if-branch-2.false c.in_ok-move_first.ensures))
    c.reap.ensures.object c.reap.ensures.kept (sym c.is_some.ensures ∙ c.if-is_some.false) c.drain_first.ensures.drains
