use Rattle.std.proofs.Common.{◌≡◌, refl}
use Rattle.bridge_world.specs.Joined.{end_at, joined}
use Rattle.bridge_endpoint.specs.Journals.{with_entry}
use Rattle.bridge_model.specs.Answers.{may_reap}
use Rattle.bridge_model.specs.Entries.{reaped}
use Rattle.bridge_world.proofs.EndCalls.{calls_a, calls_b, did, if_none, if_some, is_seen, marked_a, marked_b, world_a, world_b}
use Rattle.bridge_world.proofs.OneEntry.{goes_some}
use Rattle.bridge_world.proofs.Unmarked.{unmark_more}
use Rattle.bridge_world.proofs.ends.WorldEnds.reap.Goals as goal

pub returns-in-A-clause-object : goal.returns-in-A-clause-object
returns-in-A-clause-object c =
    let w = c.self.inside in
    let m = c.mark.new.end in
    let before = marked_a w.a w.b w.to_a.items w.to_b.items c.self.invariant c.args.self.now c.self.view_is c.args.side c.in-A.is m c.mark.ensures in
    is_seen m (end_at c.args.self.now c.args.side) before (λ g z. c.reap.result ≡ may_reap g z) c.reap.ensures.object

pub returns-in-A-clause-entered : goal.returns-in-A-clause-entered
returns-in-A-clause-entered c =
    let w = c.self.inside in
    let m = c.mark.new.end in
    let e = c.reap.new.self in
    let goes = goes_some m w.to_a.items w.to_b.items (λ o. reaped o) (λ o. record { given = tt; none_in = refl; none_out = refl }) c.reap.result e c.reap.ensures.entered c.reap.ensures.kept in
    let calls = calls_a w.a w.b w.to_a.items w.to_b.items c.self.invariant c.args.self.now c.self.view_is c.args.side c.in-A.is m c.mark.ensures e w.to_a.items w.to_b.items goes in
    if_some _ _ (λ o is. did c.args.side c.args.self.now (joined e w.b) m e calls (with_entry (reaped o)) (unmark_more (reaped o)) is) c.reap.result c.reap.ensures.entered

pub returns-in-A-clause-kept : goal.returns-in-A-clause-kept
returns-in-A-clause-kept c =
    let w = c.self.inside in
    let m = c.mark.new.end in
    let e = c.reap.new.self in
    let goes = goes_some m w.to_a.items w.to_b.items (λ o. reaped o) (λ o. record { given = tt; none_in = refl; none_out = refl }) c.reap.result e c.reap.ensures.entered c.reap.ensures.kept in
    let calls = calls_a w.a w.b w.to_a.items w.to_b.items c.self.invariant c.args.self.now c.self.view_is c.args.side c.in-A.is m c.mark.ensures e w.to_a.items w.to_b.items goes in
    if_none (λ is. did c.args.side c.args.self.now (joined e w.b) m e calls (λ x. x) (λ x. refl) is) c.reap.result c.reap.ensures.kept

pub returns-in-A-clause-others : goal.returns-in-A-clause-others
returns-in-A-clause-others c =
    let w = c.self.inside in
    let m = c.mark.new.end in
    let e = c.reap.new.self in
    let goes = goes_some m w.to_a.items w.to_b.items (λ o. reaped o) (λ o. record { given = tt; none_in = refl; none_out = refl }) c.reap.result e c.reap.ensures.entered c.reap.ensures.kept in
    let calls = calls_a w.a w.b w.to_a.items w.to_b.items c.self.invariant c.args.self.now c.self.view_is c.args.side c.in-A.is m c.mark.ensures e w.to_a.items w.to_b.items goes in
    λ other has apart. calls.others other apart

pub returns-in-A-clause-history : goal.returns-in-A-clause-history
returns-in-A-clause-history c =
    let w = c.self.inside in
    let m = c.mark.new.end in
    let e = c.reap.new.self in
    let goes = goes_some m w.to_a.items w.to_b.items (λ o. reaped o) (λ o. record { given = tt; none_in = refl; none_out = refl }) c.reap.result e c.reap.ensures.entered c.reap.ensures.kept in
    let calls = calls_a w.a w.b w.to_a.items w.to_b.items c.self.invariant c.args.self.now c.self.view_is c.args.side c.in-A.is m c.mark.ensures e w.to_a.items w.to_b.items goes in
    calls.grows

pub invariant_of-self : goal.invariant_of-self
invariant_of-self c =
    let w = c.self.inside in
    let m = c.mark.new.end in
    let e = c.reap.new.self in
    let goes = goes_some m w.to_a.items w.to_b.items (λ o. reaped o) (λ o. record { given = tt; none_in = refl; none_out = refl }) c.reap.result e c.reap.ensures.entered c.reap.ensures.kept in
    world_a w.a w.b w.to_a.items w.to_b.items c.self.invariant c.args.self.now c.self.view_is c.args.side c.in-A.is m c.mark.ensures e w.to_a.items w.to_b.items goes

pub returns-in-B-clause-object : goal.returns-in-B-clause-object
returns-in-B-clause-object c =
    let w = c.self.inside in
    let m = c.mark-in-B.new.end in
    let before = marked_b w.a w.b w.to_a.items w.to_b.items c.self.invariant c.args.self.now c.self.view_is c.args.side c.in-B.is m c.mark-in-B.ensures in
    is_seen m (end_at c.args.self.now c.args.side) before (λ g z. c.reap-in-B.result ≡ may_reap g z) c.reap-in-B.ensures.object

pub returns-in-B-clause-entered : goal.returns-in-B-clause-entered
returns-in-B-clause-entered c =
    let w = c.self.inside in
    let m = c.mark-in-B.new.end in
    let e = c.reap-in-B.new.self in
    let goes = goes_some m w.to_b.items w.to_a.items (λ o. reaped o) (λ o. record { given = tt; none_in = refl; none_out = refl }) c.reap-in-B.result e c.reap-in-B.ensures.entered c.reap-in-B.ensures.kept in
    let calls = calls_b w.a w.b w.to_a.items w.to_b.items c.self.invariant c.args.self.now c.self.view_is c.args.side c.in-B.is m c.mark-in-B.ensures e w.to_b.items w.to_a.items goes in
    if_some _ _ (λ o is. did c.args.side c.args.self.now (joined w.a e) m e calls (with_entry (reaped o)) (unmark_more (reaped o)) is) c.reap-in-B.result c.reap-in-B.ensures.entered

pub returns-in-B-clause-kept : goal.returns-in-B-clause-kept
returns-in-B-clause-kept c =
    let w = c.self.inside in
    let m = c.mark-in-B.new.end in
    let e = c.reap-in-B.new.self in
    let goes = goes_some m w.to_b.items w.to_a.items (λ o. reaped o) (λ o. record { given = tt; none_in = refl; none_out = refl }) c.reap-in-B.result e c.reap-in-B.ensures.entered c.reap-in-B.ensures.kept in
    let calls = calls_b w.a w.b w.to_a.items w.to_b.items c.self.invariant c.args.self.now c.self.view_is c.args.side c.in-B.is m c.mark-in-B.ensures e w.to_b.items w.to_a.items goes in
    if_none (λ is. did c.args.side c.args.self.now (joined w.a e) m e calls (λ x. x) (λ x. refl) is) c.reap-in-B.result c.reap-in-B.ensures.kept

pub returns-in-B-clause-others : goal.returns-in-B-clause-others
returns-in-B-clause-others c =
    let w = c.self.inside in
    let m = c.mark-in-B.new.end in
    let e = c.reap-in-B.new.self in
    let goes = goes_some m w.to_b.items w.to_a.items (λ o. reaped o) (λ o. record { given = tt; none_in = refl; none_out = refl }) c.reap-in-B.result e c.reap-in-B.ensures.entered c.reap-in-B.ensures.kept in
    let calls = calls_b w.a w.b w.to_a.items w.to_b.items c.self.invariant c.args.self.now c.self.view_is c.args.side c.in-B.is m c.mark-in-B.ensures e w.to_b.items w.to_a.items goes in
    λ other has apart. calls.others other apart

pub returns-in-B-clause-history : goal.returns-in-B-clause-history
returns-in-B-clause-history c =
    let w = c.self.inside in
    let m = c.mark-in-B.new.end in
    let e = c.reap-in-B.new.self in
    let goes = goes_some m w.to_b.items w.to_a.items (λ o. reaped o) (λ o. record { given = tt; none_in = refl; none_out = refl }) c.reap-in-B.result e c.reap-in-B.ensures.entered c.reap-in-B.ensures.kept in
    let calls = calls_b w.a w.b w.to_a.items w.to_b.items c.self.invariant c.args.self.now c.self.view_is c.args.side c.in-B.is m c.mark-in-B.ensures e w.to_b.items w.to_a.items goes in
    calls.grows

pub invariant_of-self-in-B : goal.invariant_of-self-in-B
invariant_of-self-in-B c =
    let w = c.self.inside in
    let m = c.mark-in-B.new.end in
    let e = c.reap-in-B.new.self in
    let goes = goes_some m w.to_b.items w.to_a.items (λ o. reaped o) (λ o. record { given = tt; none_in = refl; none_out = refl }) c.reap-in-B.result e c.reap-in-B.ensures.entered c.reap-in-B.ensures.kept in
    world_b w.a w.b w.to_a.items w.to_b.items c.self.invariant c.args.self.now c.self.view_is c.args.side c.in-B.is m c.mark-in-B.ensures e w.to_b.items w.to_a.items goes
