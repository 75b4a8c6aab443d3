use Rattle.std.proofs.Common.{◌≡◌, ◌↔◌, ◌+◌, length}
use Rattle.behaviour.specs.Roots.{run_of}
use Rattle.bridge_model.specs.Sides.{state_of}
use Rattle.bridge_core.specs.declared.moved.RootMoved.TheVariants as RootMoved
use Rattle.bridge_endpoint.specs.Telling.{state_told}
use Rattle.bridge_endpoint.specs.Telling as RootState
use Rattle.bridge_world.specs.Joined.{end_at, joined}
use Rattle.bridge_world.proofs.EndCalls.{calls_a, calls_b, is_seen, marked_a, marked_b, world_a, world_b}
use Rattle.bridge_world.proofs.PipingCalls.{both_known}
use Rattle.bridge_world.proofs.RootSteps.{gives_a, gives_b, run_seen, run_there, step_goes, step_seen}
use Rattle.bridge_world.proofs.ends.WorldEnds.root_step.Goals as goal

pub root_step-requires : goal.root_step-requires
root_step-requires c =
    let w = c.self.inside in
    let m = c.mark.new.end in
    run_there m (end_at c.args.self.now c.args.side) (marked_a w.a w.b w.to_a.items w.to_b.items c.self.invariant c.args.self.now c.self.view_is c.args.side c.in-A.is m c.mark.ensures) (run_of c.args.run.now) c.requires.run

pub returns-in-A-clause-step : goal.returns-in-A-clause-step
returns-in-A-clause-step c =
    let w = c.self.inside in
    let m = c.mark.new.end in
    let e = c.root_step.new.end in
    let before = marked_a w.a w.b w.to_a.items w.to_b.items c.self.invariant c.args.self.now c.self.view_is c.args.side c.in-A.is m c.mark.ensures in
    let run = run_there m (end_at c.args.self.now c.args.side) before (run_of c.args.run.now) c.requires.run in
    let gives = gives_a w.a w.b w.to_a.items w.to_b.items c.self.invariant (both_known w.a w.b w.to_a.items w.to_b.items c.self.invariant c.know.ensures.a c.know.ensures.b) (length w.a.entries + length w.b.entries) m (run_of c.args.run.now) c.text_is_utf8.ensures c.mark.ensures run in
    let goes = step_goes m w.to_a.items w.to_b.items (run_of c.args.run.now) gives e (run_of c.root_step.new.run) c.root_step.result c.root_step.ensures.step in
    let calls = calls_a w.a w.b w.to_a.items w.to_b.items c.self.invariant c.args.self.now c.self.view_is c.args.side c.in-A.is m c.mark.ensures e w.to_a.items w.to_b.items goes in
    step_seen c.args.side c.args.self.now (joined e w.b) m e calls (run_of c.args.run.now) (run_of c.root_step.new.run) c.root_step.result c.root_step.ensures.step

pub returns-in-A-clause-waits : goal.returns-in-A-clause-waits
returns-in-A-clause-waits c =
    let w = c.self.inside in
    let m = c.mark.new.end in
    let before = marked_a w.a w.b w.to_a.items w.to_b.items c.self.invariant c.args.self.now c.self.view_is c.args.side c.in-A.is m c.mark.ensures in
    is_seen m (end_at c.args.self.now c.args.side) before (λ g z. (c.root_step.result ≡ RootMoved.Waiting) ↔ (state_told (state_of c.args.run.now.root z.tables.roots) ≡ RootState.Waits)) c.root_step.ensures.waits

pub returns-in-A-clause-stands : goal.returns-in-A-clause-stands
returns-in-A-clause-stands c =
    let w = c.self.inside in
    let m = c.mark.new.end in
    let e = c.root_step.new.end in
    let before = marked_a w.a w.b w.to_a.items w.to_b.items c.self.invariant c.args.self.now c.self.view_is c.args.side c.in-A.is m c.mark.ensures in
    let run = run_there m (end_at c.args.self.now c.args.side) before (run_of c.args.run.now) c.requires.run in
    let gives = gives_a w.a w.b w.to_a.items w.to_b.items c.self.invariant (both_known w.a w.b w.to_a.items w.to_b.items c.self.invariant c.know.ensures.a c.know.ensures.b) (length w.a.entries + length w.b.entries) m (run_of c.args.run.now) c.text_is_utf8.ensures c.mark.ensures run in
    let goes = step_goes m w.to_a.items w.to_b.items (run_of c.args.run.now) gives e (run_of c.root_step.new.run) c.root_step.result c.root_step.ensures.step in
    let calls = calls_a w.a w.b w.to_a.items w.to_b.items c.self.invariant c.args.self.now c.self.view_is c.args.side c.in-A.is m c.mark.ensures e w.to_a.items w.to_b.items goes in
    run_seen e (end_at (joined e w.b) c.args.side) calls.after (run_of c.root_step.new.run) c.root_step.ensures.stands

pub returns-in-A-clause-others : goal.returns-in-A-clause-others
returns-in-A-clause-others c =
    let w = c.self.inside in
    let m = c.mark.new.end in
    let e = c.root_step.new.end in
    let before = marked_a w.a w.b w.to_a.items w.to_b.items c.self.invariant c.args.self.now c.self.view_is c.args.side c.in-A.is m c.mark.ensures in
    let run = run_there m (end_at c.args.self.now c.args.side) before (run_of c.args.run.now) c.requires.run in
    let gives = gives_a w.a w.b w.to_a.items w.to_b.items c.self.invariant (both_known w.a w.b w.to_a.items w.to_b.items c.self.invariant c.know.ensures.a c.know.ensures.b) (length w.a.entries + length w.b.entries) m (run_of c.args.run.now) c.text_is_utf8.ensures c.mark.ensures run in
    let goes = step_goes m w.to_a.items w.to_b.items (run_of c.args.run.now) gives e (run_of c.root_step.new.run) c.root_step.result c.root_step.ensures.step in
    let calls = calls_a w.a w.b w.to_a.items w.to_b.items c.self.invariant c.args.self.now c.self.view_is c.args.side c.in-A.is m c.mark.ensures e w.to_a.items w.to_b.items goes in
    λ other has apart. calls.others other apart

pub returns-in-A-clause-history : goal.returns-in-A-clause-history
returns-in-A-clause-history c =
    let w = c.self.inside in
    let m = c.mark.new.end in
    let e = c.root_step.new.end in
    let before = marked_a w.a w.b w.to_a.items w.to_b.items c.self.invariant c.args.self.now c.self.view_is c.args.side c.in-A.is m c.mark.ensures in
    let run = run_there m (end_at c.args.self.now c.args.side) before (run_of c.args.run.now) c.requires.run in
    let gives = gives_a w.a w.b w.to_a.items w.to_b.items c.self.invariant (both_known w.a w.b w.to_a.items w.to_b.items c.self.invariant c.know.ensures.a c.know.ensures.b) (length w.a.entries + length w.b.entries) m (run_of c.args.run.now) c.text_is_utf8.ensures c.mark.ensures run in
    let goes = step_goes m w.to_a.items w.to_b.items (run_of c.args.run.now) gives e (run_of c.root_step.new.run) c.root_step.result c.root_step.ensures.step in
    let calls = calls_a w.a w.b w.to_a.items w.to_b.items c.self.invariant c.args.self.now c.self.view_is c.args.side c.in-A.is m c.mark.ensures e w.to_a.items w.to_b.items goes in
    calls.grows

pub invariant_of-self : goal.invariant_of-self
invariant_of-self c =
    let w = c.self.inside in
    let m = c.mark.new.end in
    let e = c.root_step.new.end in
    let before = marked_a w.a w.b w.to_a.items w.to_b.items c.self.invariant c.args.self.now c.self.view_is c.args.side c.in-A.is m c.mark.ensures in
    let run = run_there m (end_at c.args.self.now c.args.side) before (run_of c.args.run.now) c.requires.run in
    let gives = gives_a w.a w.b w.to_a.items w.to_b.items c.self.invariant (both_known w.a w.b w.to_a.items w.to_b.items c.self.invariant c.know.ensures.a c.know.ensures.b) (length w.a.entries + length w.b.entries) m (run_of c.args.run.now) c.text_is_utf8.ensures c.mark.ensures run in
    let goes = step_goes m w.to_a.items w.to_b.items (run_of c.args.run.now) gives e (run_of c.root_step.new.run) c.root_step.result c.root_step.ensures.step in
    world_a w.a w.b w.to_a.items w.to_b.items c.self.invariant c.args.self.now c.self.view_is c.args.side c.in-A.is m c.mark.ensures e w.to_a.items w.to_b.items goes

pub root_step-requires-in-B : goal.root_step-requires-in-B
root_step-requires-in-B c =
    let w = c.self.inside in
    let m = c.mark-in-B.new.end in
    run_there m (end_at c.args.self.now c.args.side) (marked_b w.a w.b w.to_a.items w.to_b.items c.self.invariant c.args.self.now c.self.view_is c.args.side c.in-B.is m c.mark-in-B.ensures) (run_of c.args.run.now) c.requires.run

pub returns-in-B-clause-step : goal.returns-in-B-clause-step
returns-in-B-clause-step c =
    let w = c.self.inside in
    let m = c.mark-in-B.new.end in
    let e = c.root_step-in-B.new.end in
    let before = marked_b w.a w.b w.to_a.items w.to_b.items c.self.invariant c.args.self.now c.self.view_is c.args.side c.in-B.is m c.mark-in-B.ensures in
    let run = run_there m (end_at c.args.self.now c.args.side) before (run_of c.args.run.now) c.requires.run in
    let gives = gives_b w.a w.b w.to_a.items w.to_b.items c.self.invariant (both_known w.a w.b w.to_a.items w.to_b.items c.self.invariant c.know.ensures.a c.know.ensures.b) (length w.b.entries + length w.a.entries) m (run_of c.args.run.now) c.text_is_utf8.ensures c.mark-in-B.ensures run in
    let goes = step_goes m w.to_b.items w.to_a.items (run_of c.args.run.now) gives e (run_of c.root_step-in-B.new.run) c.root_step-in-B.result c.root_step-in-B.ensures.step in
    let calls = calls_b w.a w.b w.to_a.items w.to_b.items c.self.invariant c.args.self.now c.self.view_is c.args.side c.in-B.is m c.mark-in-B.ensures e w.to_b.items w.to_a.items goes in
    step_seen c.args.side c.args.self.now (joined w.a e) m e calls (run_of c.args.run.now) (run_of c.root_step-in-B.new.run) c.root_step-in-B.result c.root_step-in-B.ensures.step

pub returns-in-B-clause-waits : goal.returns-in-B-clause-waits
returns-in-B-clause-waits c =
    let w = c.self.inside in
    let m = c.mark-in-B.new.end in
    let before = marked_b w.a w.b w.to_a.items w.to_b.items c.self.invariant c.args.self.now c.self.view_is c.args.side c.in-B.is m c.mark-in-B.ensures in
    is_seen m (end_at c.args.self.now c.args.side) before (λ g z. (c.root_step-in-B.result ≡ RootMoved.Waiting) ↔ (state_told (state_of c.args.run.now.root z.tables.roots) ≡ RootState.Waits)) c.root_step-in-B.ensures.waits

pub returns-in-B-clause-stands : goal.returns-in-B-clause-stands
returns-in-B-clause-stands c =
    let w = c.self.inside in
    let m = c.mark-in-B.new.end in
    let e = c.root_step-in-B.new.end in
    let before = marked_b w.a w.b w.to_a.items w.to_b.items c.self.invariant c.args.self.now c.self.view_is c.args.side c.in-B.is m c.mark-in-B.ensures in
    let run = run_there m (end_at c.args.self.now c.args.side) before (run_of c.args.run.now) c.requires.run in
    let gives = gives_b w.a w.b w.to_a.items w.to_b.items c.self.invariant (both_known w.a w.b w.to_a.items w.to_b.items c.self.invariant c.know.ensures.a c.know.ensures.b) (length w.b.entries + length w.a.entries) m (run_of c.args.run.now) c.text_is_utf8.ensures c.mark-in-B.ensures run in
    let goes = step_goes m w.to_b.items w.to_a.items (run_of c.args.run.now) gives e (run_of c.root_step-in-B.new.run) c.root_step-in-B.result c.root_step-in-B.ensures.step in
    let calls = calls_b w.a w.b w.to_a.items w.to_b.items c.self.invariant c.args.self.now c.self.view_is c.args.side c.in-B.is m c.mark-in-B.ensures e w.to_b.items w.to_a.items goes in
    run_seen e (end_at (joined w.a e) c.args.side) calls.after (run_of c.root_step-in-B.new.run) c.root_step-in-B.ensures.stands

pub returns-in-B-clause-others : goal.returns-in-B-clause-others
returns-in-B-clause-others c =
    let w = c.self.inside in
    let m = c.mark-in-B.new.end in
    let e = c.root_step-in-B.new.end in
    let before = marked_b w.a w.b w.to_a.items w.to_b.items c.self.invariant c.args.self.now c.self.view_is c.args.side c.in-B.is m c.mark-in-B.ensures in
    let run = run_there m (end_at c.args.self.now c.args.side) before (run_of c.args.run.now) c.requires.run in
    let gives = gives_b w.a w.b w.to_a.items w.to_b.items c.self.invariant (both_known w.a w.b w.to_a.items w.to_b.items c.self.invariant c.know.ensures.a c.know.ensures.b) (length w.b.entries + length w.a.entries) m (run_of c.args.run.now) c.text_is_utf8.ensures c.mark-in-B.ensures run in
    let goes = step_goes m w.to_b.items w.to_a.items (run_of c.args.run.now) gives e (run_of c.root_step-in-B.new.run) c.root_step-in-B.result c.root_step-in-B.ensures.step in
    let calls = calls_b w.a w.b w.to_a.items w.to_b.items c.self.invariant c.args.self.now c.self.view_is c.args.side c.in-B.is m c.mark-in-B.ensures e w.to_b.items w.to_a.items goes in
    λ other has apart. calls.others other apart

pub returns-in-B-clause-history : goal.returns-in-B-clause-history
returns-in-B-clause-history c =
    let w = c.self.inside in
    let m = c.mark-in-B.new.end in
    let e = c.root_step-in-B.new.end in
    let before = marked_b w.a w.b w.to_a.items w.to_b.items c.self.invariant c.args.self.now c.self.view_is c.args.side c.in-B.is m c.mark-in-B.ensures in
    let run = run_there m (end_at c.args.self.now c.args.side) before (run_of c.args.run.now) c.requires.run in
    let gives = gives_b w.a w.b w.to_a.items w.to_b.items c.self.invariant (both_known w.a w.b w.to_a.items w.to_b.items c.self.invariant c.know.ensures.a c.know.ensures.b) (length w.b.entries + length w.a.entries) m (run_of c.args.run.now) c.text_is_utf8.ensures c.mark-in-B.ensures run in
    let goes = step_goes m w.to_b.items w.to_a.items (run_of c.args.run.now) gives e (run_of c.root_step-in-B.new.run) c.root_step-in-B.result c.root_step-in-B.ensures.step in
    let calls = calls_b w.a w.b w.to_a.items w.to_b.items c.self.invariant c.args.self.now c.self.view_is c.args.side c.in-B.is m c.mark-in-B.ensures e w.to_b.items w.to_a.items goes in
    calls.grows

pub invariant_of-self-in-B : goal.invariant_of-self-in-B
invariant_of-self-in-B c =
    let w = c.self.inside in
    let m = c.mark-in-B.new.end in
    let e = c.root_step-in-B.new.end in
    let before = marked_b w.a w.b w.to_a.items w.to_b.items c.self.invariant c.args.self.now c.self.view_is c.args.side c.in-B.is m c.mark-in-B.ensures in
    let run = run_there m (end_at c.args.self.now c.args.side) before (run_of c.args.run.now) c.requires.run in
    let gives = gives_b w.a w.b w.to_a.items w.to_b.items c.self.invariant (both_known w.a w.b w.to_a.items w.to_b.items c.self.invariant c.know.ensures.a c.know.ensures.b) (length w.b.entries + length w.a.entries) m (run_of c.args.run.now) c.text_is_utf8.ensures c.mark-in-B.ensures run in
    let goes = step_goes m w.to_b.items w.to_a.items (run_of c.args.run.now) gives e (run_of c.root_step-in-B.new.run) c.root_step-in-B.result c.root_step-in-B.ensures.step in
    world_b w.a w.b w.to_a.items w.to_b.items c.self.invariant c.args.self.now c.self.view_is c.args.side c.in-B.is m c.mark-in-B.ensures e w.to_b.items w.to_a.items goes
