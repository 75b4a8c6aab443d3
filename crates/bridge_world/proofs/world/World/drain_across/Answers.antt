use Rattle.std.proofs.Common.{◌≡◌, false, IfOk, OnOk}
use Rattle.bridge_endpoint.specs.Entering.{draining, out_of_memory}
use Rattle.bridge_model.specs.Answers.{drained_next}
use Rattle.bridge_model.specs.Steps.{is_no_memory}
use Rattle.bridge_world.specs.Joined.{end_at, joined}
use Rattle.bridge_world.proofs.EndCalls.{calls_a, calls_b, did, if_ok, is_seen, marked_a, marked_b, on_err, world_a, world_b}
use Rattle.bridge_world.proofs.PipingCalls.{goes_out}
use Rattle.bridge_world.proofs.Unmarked.{unmark_draining, unmark_lost}
use Rattle.bridge_world.proofs.world.World.drain_across.Goals as goal

pub returns-in-A-clause-bytes : goal.returns-in-A-clause-bytes
returns-in-A-clause-bytes c =
    let w = c.self.inside in
    let m = c.mark.new.end in
    let before = marked_a w.a w.b w.to_a.items w.to_b.items c.self.invariant c.args.self.now c.self.view_is c.args.side c.in-A.is m c.mark.ensures in
    is_seen m (end_at c.args.self.now c.args.side) before (λ g z. IfOk c.drain.result (λ bytes. bytes.items ≡ drained_next g c.args.max z)) c.drain.ensures.bytes

pub returns-in-A-clause-memory : goal.returns-in-A-clause-memory
returns-in-A-clause-memory c =
    let w = c.self.inside in
    let m = c.mark.new.end in
    let before = marked_a w.a w.b w.to_a.items w.to_b.items c.self.invariant c.args.self.now c.self.view_is c.args.side c.in-A.is m c.mark.ensures in
    is_seen m (end_at c.args.self.now c.args.side) before (λ g z. OnOk c.drain.result (is_no_memory z.cause ≡ false)) c.drain.ensures.memory

pub returns-in-A-clause-entered : goal.returns-in-A-clause-entered
returns-in-A-clause-entered c =
    let w = c.self.inside in
    let m = c.mark.new.end in
    let e = c.drain.new.end in
    let r = c.drain.result in
    let out = c.drain.new.pipe.items in
    let goes = goes_out (λ bytes. bytes.items) m w.to_a.items w.to_b.items r e out c.drain.ensures.entered c.drain.ensures.put c.drain.ensures.lost c.drain.ensures.kept in
    let calls = calls_a w.a w.b w.to_a.items w.to_b.items c.self.invariant c.args.self.now c.self.view_is c.args.side c.in-A.is m c.mark.ensures e w.to_a.items out goes in
    if_ok _ _ (λ bytes is. did c.args.side c.args.self.now (joined e w.b) m e calls (draining bytes.items) (unmark_draining bytes.items) is) r c.drain.ensures.entered

pub returns-in-A-clause-lost : goal.returns-in-A-clause-lost
returns-in-A-clause-lost c =
    let w = c.self.inside in
    let m = c.mark.new.end in
    let e = c.drain.new.end in
    let r = c.drain.result in
    let out = c.drain.new.pipe.items in
    let goes = goes_out (λ bytes. bytes.items) m w.to_a.items w.to_b.items r e out c.drain.ensures.entered c.drain.ensures.put c.drain.ensures.lost c.drain.ensures.kept in
    let calls = calls_a w.a w.b w.to_a.items w.to_b.items c.self.invariant c.args.self.now c.self.view_is c.args.side c.in-A.is m c.mark.ensures e w.to_a.items out goes in
    on_err (λ is. did c.args.side c.args.self.now (joined e w.b) m e calls out_of_memory unmark_lost is) r c.drain.ensures.lost

pub returns-in-A-clause-others : goal.returns-in-A-clause-others
returns-in-A-clause-others c =
    let w = c.self.inside in
    let m = c.mark.new.end in
    let e = c.drain.new.end in
    let r = c.drain.result in
    let out = c.drain.new.pipe.items in
    let goes = goes_out (λ bytes. bytes.items) m w.to_a.items w.to_b.items r e out c.drain.ensures.entered c.drain.ensures.put c.drain.ensures.lost c.drain.ensures.kept in
    let calls = calls_a w.a w.b w.to_a.items w.to_b.items c.self.invariant c.args.self.now c.self.view_is c.args.side c.in-A.is m c.mark.ensures e w.to_a.items out goes in
    calls.others

pub returns-in-A-clause-history : goal.returns-in-A-clause-history
returns-in-A-clause-history c =
    let w = c.self.inside in
    let m = c.mark.new.end in
    let e = c.drain.new.end in
    let r = c.drain.result in
    let out = c.drain.new.pipe.items in
    let goes = goes_out (λ bytes. bytes.items) m w.to_a.items w.to_b.items r e out c.drain.ensures.entered c.drain.ensures.put c.drain.ensures.lost c.drain.ensures.kept in
    let calls = calls_a w.a w.b w.to_a.items w.to_b.items c.self.invariant c.args.self.now c.self.view_is c.args.side c.in-A.is m c.mark.ensures e w.to_a.items out goes in
    calls.grows

pub invariant_of-self : goal.invariant_of-self
invariant_of-self c =
    let w = c.self.inside in
    let m = c.mark.new.end in
    let e = c.drain.new.end in
    let r = c.drain.result in
    let out = c.drain.new.pipe.items in
    let goes = goes_out (λ bytes. bytes.items) m w.to_a.items w.to_b.items r e out c.drain.ensures.entered c.drain.ensures.put c.drain.ensures.lost c.drain.ensures.kept in
    world_a w.a w.b w.to_a.items w.to_b.items c.self.invariant c.args.self.now c.self.view_is c.args.side c.in-A.is m c.mark.ensures e w.to_a.items out goes

pub returns-in-B-clause-bytes : goal.returns-in-B-clause-bytes
returns-in-B-clause-bytes c =
    let w = c.self.inside in
    let m = c.mark-in-B.new.end in
    let before = marked_b w.a w.b w.to_a.items w.to_b.items c.self.invariant c.args.self.now c.self.view_is c.args.side c.in-B.is m c.mark-in-B.ensures in
    is_seen m (end_at c.args.self.now c.args.side) before (λ g z. IfOk c.drain-in-B.result (λ bytes. bytes.items ≡ drained_next g c.args.max z)) c.drain-in-B.ensures.bytes

pub returns-in-B-clause-memory : goal.returns-in-B-clause-memory
returns-in-B-clause-memory c =
    let w = c.self.inside in
    let m = c.mark-in-B.new.end in
    let before = marked_b w.a w.b w.to_a.items w.to_b.items c.self.invariant c.args.self.now c.self.view_is c.args.side c.in-B.is m c.mark-in-B.ensures in
    is_seen m (end_at c.args.self.now c.args.side) before (λ g z. OnOk c.drain-in-B.result (is_no_memory z.cause ≡ false)) c.drain-in-B.ensures.memory

pub returns-in-B-clause-entered : goal.returns-in-B-clause-entered
returns-in-B-clause-entered c =
    let w = c.self.inside in
    let m = c.mark-in-B.new.end in
    let e = c.drain-in-B.new.end in
    let r = c.drain-in-B.result in
    let out = c.drain-in-B.new.pipe.items in
    let goes = goes_out (λ bytes. bytes.items) m w.to_b.items w.to_a.items r e out c.drain-in-B.ensures.entered c.drain-in-B.ensures.put c.drain-in-B.ensures.lost c.drain-in-B.ensures.kept in
    let calls = calls_b w.a w.b w.to_a.items w.to_b.items c.self.invariant c.args.self.now c.self.view_is c.args.side c.in-B.is m c.mark-in-B.ensures e w.to_b.items out goes in
    if_ok _ _ (λ bytes is. did c.args.side c.args.self.now (joined w.a e) m e calls (draining bytes.items) (unmark_draining bytes.items) is) r c.drain-in-B.ensures.entered

pub returns-in-B-clause-lost : goal.returns-in-B-clause-lost
returns-in-B-clause-lost c =
    let w = c.self.inside in
    let m = c.mark-in-B.new.end in
    let e = c.drain-in-B.new.end in
    let r = c.drain-in-B.result in
    let out = c.drain-in-B.new.pipe.items in
    let goes = goes_out (λ bytes. bytes.items) m w.to_b.items w.to_a.items r e out c.drain-in-B.ensures.entered c.drain-in-B.ensures.put c.drain-in-B.ensures.lost c.drain-in-B.ensures.kept in
    let calls = calls_b w.a w.b w.to_a.items w.to_b.items c.self.invariant c.args.self.now c.self.view_is c.args.side c.in-B.is m c.mark-in-B.ensures e w.to_b.items out goes in
    on_err (λ is. did c.args.side c.args.self.now (joined w.a e) m e calls out_of_memory unmark_lost is) r c.drain-in-B.ensures.lost

pub returns-in-B-clause-others : goal.returns-in-B-clause-others
returns-in-B-clause-others c =
    let w = c.self.inside in
    let m = c.mark-in-B.new.end in
    let e = c.drain-in-B.new.end in
    let r = c.drain-in-B.result in
    let out = c.drain-in-B.new.pipe.items in
    let goes = goes_out (λ bytes. bytes.items) m w.to_b.items w.to_a.items r e out c.drain-in-B.ensures.entered c.drain-in-B.ensures.put c.drain-in-B.ensures.lost c.drain-in-B.ensures.kept in
    let calls = calls_b w.a w.b w.to_a.items w.to_b.items c.self.invariant c.args.self.now c.self.view_is c.args.side c.in-B.is m c.mark-in-B.ensures e w.to_b.items out goes in
    calls.others

pub returns-in-B-clause-history : goal.returns-in-B-clause-history
returns-in-B-clause-history c =
    let w = c.self.inside in
    let m = c.mark-in-B.new.end in
    let e = c.drain-in-B.new.end in
    let r = c.drain-in-B.result in
    let out = c.drain-in-B.new.pipe.items in
    let goes = goes_out (λ bytes. bytes.items) m w.to_b.items w.to_a.items r e out c.drain-in-B.ensures.entered c.drain-in-B.ensures.put c.drain-in-B.ensures.lost c.drain-in-B.ensures.kept in
    let calls = calls_b w.a w.b w.to_a.items w.to_b.items c.self.invariant c.args.self.now c.self.view_is c.args.side c.in-B.is m c.mark-in-B.ensures e w.to_b.items out goes in
    calls.grows

pub invariant_of-self-in-B : goal.invariant_of-self-in-B
invariant_of-self-in-B c =
    let w = c.self.inside in
    let m = c.mark-in-B.new.end in
    let e = c.drain-in-B.new.end in
    let r = c.drain-in-B.result in
    let out = c.drain-in-B.new.pipe.items in
    let goes = goes_out (λ bytes. bytes.items) m w.to_b.items w.to_a.items r e out c.drain-in-B.ensures.entered c.drain-in-B.ensures.put c.drain-in-B.ensures.lost c.drain-in-B.ensures.kept in
    world_b w.a w.b w.to_a.items w.to_b.items c.self.invariant c.args.self.now c.self.view_is c.args.side c.in-B.is m c.mark-in-B.ensures e w.to_b.items out goes
