use Rattle.std.proofs.Common.{◌≡◌}
use Rattle.bridge_world.specs.Joined.{end_at, joined}
use Rattle.behaviour.specs.Effects.{effect_of}
use Rattle.bridge_endpoint.specs.Answering.{AppliedSo}
use Rattle.bridge_endpoint.specs.Entering.{applied_by}
use Rattle.plan_model.specs.Effects.{effect}
use Rattle.plan_types.specs.Frames.{job_of}
use Rattle.bridge_world.proofs.EndCalls.{calls_a, calls_b, did, is_seen, is_there, marked_a, marked_b, went, world_a, world_b}
use Rattle.bridge_world.proofs.CallLaws.{goes_applied}
use Rattle.bridge_world.proofs.Unmarked.{unmark_applied}
use Rattle.bridge_world.proofs.ends.WorldEnds.apply.Goals as goal

pub apply-requires : goal.apply-requires
apply-requires c =
    let w = c.self.inside in
    let m = c.mark.new.end in
    let before = marked_a w.a w.b w.to_a.items w.to_b.items c.self.invariant c.args.self.now c.self.view_is c.args.side c.in-A.is m c.mark.ensures in
    is_there m (end_at c.args.self.now c.args.side) before (λ g z. effect_of c.args.done.effect ≡ effect g.plan g.registry (job_of c.args.done.job)) c.requires.effect

pub returns-in-A-clause-answer : goal.returns-in-A-clause-answer
returns-in-A-clause-answer c =
    let w = c.self.inside in
    let m = c.mark.new.end in
    let before = marked_a w.a w.b w.to_a.items w.to_b.items c.self.invariant c.args.self.now c.self.view_is c.args.side c.in-A.is m c.mark.ensures in
    is_seen m (end_at c.args.self.now c.args.side) before (λ g z. AppliedSo g z (job_of c.args.done.job) c.apply.result) c.apply.ensures.answer

pub returns-in-A-clause-entered : goal.returns-in-A-clause-entered
returns-in-A-clause-entered c =
    let w = c.self.inside in
    let m = c.mark.new.end in
    let e = c.apply.new.self in
    let goes = went m w.to_a.items w.to_b.items e (applied_by c.apply.result c.args.done.job.tid m) w.to_a.items w.to_b.items c.apply.ensures.entered (goes_applied m w.to_a.items w.to_b.items c.args.done.job.tid c.apply.result) in
    let calls = calls_a w.a w.b w.to_a.items w.to_b.items c.self.invariant c.args.self.now c.self.view_is c.args.side c.in-A.is m c.mark.ensures e w.to_a.items w.to_b.items goes in
    did c.args.side c.args.self.now (joined e w.b) m e calls (applied_by c.apply.result c.args.done.job.tid) (unmark_applied c.apply.result c.args.done.job.tid) c.apply.ensures.entered

pub returns-in-A-clause-others : goal.returns-in-A-clause-others
returns-in-A-clause-others c =
    let w = c.self.inside in
    let m = c.mark.new.end in
    let e = c.apply.new.self in
    let goes = went m w.to_a.items w.to_b.items e (applied_by c.apply.result c.args.done.job.tid m) w.to_a.items w.to_b.items c.apply.ensures.entered (goes_applied m w.to_a.items w.to_b.items c.args.done.job.tid c.apply.result) in
    let calls = calls_a w.a w.b w.to_a.items w.to_b.items c.self.invariant c.args.self.now c.self.view_is c.args.side c.in-A.is m c.mark.ensures e w.to_a.items w.to_b.items goes in
    λ other has apart. calls.others other apart

pub returns-in-A-clause-history : goal.returns-in-A-clause-history
returns-in-A-clause-history c =
    let w = c.self.inside in
    let m = c.mark.new.end in
    let e = c.apply.new.self in
    let goes = went m w.to_a.items w.to_b.items e (applied_by c.apply.result c.args.done.job.tid m) w.to_a.items w.to_b.items c.apply.ensures.entered (goes_applied m w.to_a.items w.to_b.items c.args.done.job.tid c.apply.result) in
    let calls = calls_a w.a w.b w.to_a.items w.to_b.items c.self.invariant c.args.self.now c.self.view_is c.args.side c.in-A.is m c.mark.ensures e w.to_a.items w.to_b.items goes in
    calls.grows

pub invariant_of-self : goal.invariant_of-self
invariant_of-self c =
    let w = c.self.inside in
    let m = c.mark.new.end in
    let e = c.apply.new.self in
    let goes = went m w.to_a.items w.to_b.items e (applied_by c.apply.result c.args.done.job.tid m) w.to_a.items w.to_b.items c.apply.ensures.entered (goes_applied m w.to_a.items w.to_b.items c.args.done.job.tid c.apply.result) in
    world_a w.a w.b w.to_a.items w.to_b.items c.self.invariant c.args.self.now c.self.view_is c.args.side c.in-A.is m c.mark.ensures e w.to_a.items w.to_b.items goes

pub apply-requires-in-B : goal.apply-requires-in-B
apply-requires-in-B c =
    let w = c.self.inside in
    let m = c.mark-in-B.new.end in
    let before = marked_b w.a w.b w.to_a.items w.to_b.items c.self.invariant c.args.self.now c.self.view_is c.args.side c.in-B.is m c.mark-in-B.ensures in
    is_there m (end_at c.args.self.now c.args.side) before (λ g z. effect_of c.args.done.effect ≡ effect g.plan g.registry (job_of c.args.done.job)) c.requires.effect

pub returns-in-B-clause-answer : goal.returns-in-B-clause-answer
returns-in-B-clause-answer c =
    let w = c.self.inside in
    let m = c.mark-in-B.new.end in
    let before = marked_b w.a w.b w.to_a.items w.to_b.items c.self.invariant c.args.self.now c.self.view_is c.args.side c.in-B.is m c.mark-in-B.ensures in
    is_seen m (end_at c.args.self.now c.args.side) before (λ g z. AppliedSo g z (job_of c.args.done.job) c.apply-in-B.result) c.apply-in-B.ensures.answer

pub returns-in-B-clause-entered : goal.returns-in-B-clause-entered
returns-in-B-clause-entered c =
    let w = c.self.inside in
    let m = c.mark-in-B.new.end in
    let e = c.apply-in-B.new.self in
    let goes = went m w.to_b.items w.to_a.items e (applied_by c.apply-in-B.result c.args.done.job.tid m) w.to_b.items w.to_a.items c.apply-in-B.ensures.entered (goes_applied m w.to_b.items w.to_a.items c.args.done.job.tid c.apply-in-B.result) in
    let calls = calls_b w.a w.b w.to_a.items w.to_b.items c.self.invariant c.args.self.now c.self.view_is c.args.side c.in-B.is m c.mark-in-B.ensures e w.to_b.items w.to_a.items goes in
    did c.args.side c.args.self.now (joined w.a e) m e calls (applied_by c.apply-in-B.result c.args.done.job.tid) (unmark_applied c.apply-in-B.result c.args.done.job.tid) c.apply-in-B.ensures.entered

pub returns-in-B-clause-others : goal.returns-in-B-clause-others
returns-in-B-clause-others c =
    let w = c.self.inside in
    let m = c.mark-in-B.new.end in
    let e = c.apply-in-B.new.self in
    let goes = went m w.to_b.items w.to_a.items e (applied_by c.apply-in-B.result c.args.done.job.tid m) w.to_b.items w.to_a.items c.apply-in-B.ensures.entered (goes_applied m w.to_b.items w.to_a.items c.args.done.job.tid c.apply-in-B.result) in
    let calls = calls_b w.a w.b w.to_a.items w.to_b.items c.self.invariant c.args.self.now c.self.view_is c.args.side c.in-B.is m c.mark-in-B.ensures e w.to_b.items w.to_a.items goes in
    λ other has apart. calls.others other apart

pub returns-in-B-clause-history : goal.returns-in-B-clause-history
returns-in-B-clause-history c =
    let w = c.self.inside in
    let m = c.mark-in-B.new.end in
    let e = c.apply-in-B.new.self in
    let goes = went m w.to_b.items w.to_a.items e (applied_by c.apply-in-B.result c.args.done.job.tid m) w.to_b.items w.to_a.items c.apply-in-B.ensures.entered (goes_applied m w.to_b.items w.to_a.items c.args.done.job.tid c.apply-in-B.result) in
    let calls = calls_b w.a w.b w.to_a.items w.to_b.items c.self.invariant c.args.self.now c.self.view_is c.args.side c.in-B.is m c.mark-in-B.ensures e w.to_b.items w.to_a.items goes in
    calls.grows

pub invariant_of-self-in-B : goal.invariant_of-self-in-B
invariant_of-self-in-B c =
    let w = c.self.inside in
    let m = c.mark-in-B.new.end in
    let e = c.apply-in-B.new.self in
    let goes = went m w.to_b.items w.to_a.items e (applied_by c.apply-in-B.result c.args.done.job.tid m) w.to_b.items w.to_a.items c.apply-in-B.ensures.entered (goes_applied m w.to_b.items w.to_a.items c.args.done.job.tid c.apply-in-B.result) in
    world_b w.a w.b w.to_a.items w.to_b.items c.self.invariant c.args.self.now c.self.view_is c.args.side c.in-B.is m c.mark-in-B.ensures e w.to_b.items w.to_a.items goes
