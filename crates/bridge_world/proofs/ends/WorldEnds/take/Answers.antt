use Rattle.std.proofs.Common.{◌≡◌, refl}
use Rattle.bridge_world.specs.Joined.{end_at, joined}
use Rattle.std.specs.Option.{option_map}
use Rattle.bridge_endpoint.specs.Journals.{with_entry}
use Rattle.bridge_model.specs.Entries.{took}
use Rattle.bridge_model.specs.Roots.{outcome_in}
use Rattle.bridge_model.specs.Sides.{state_of}
use Rattle.bridge_endpoint.specs.Telling.{outcome_of}
use Rattle.bridge_world.proofs.EndCalls.{calls_a, calls_b, did, if_none, if_some, is_seen, marked_a, marked_b, world_a, world_b}
use Rattle.bridge_world.proofs.OneEntry.{goes_some}
use Rattle.bridge_world.proofs.Unmarked.{unmark_more}
use Rattle.bridge_world.proofs.ends.WorldEnds.take.Goals as goal

pub returns-in-A-clause-outcome : goal.returns-in-A-clause-outcome
returns-in-A-clause-outcome c =
    let w = c.self.inside in
    let m = c.mark.new.end in
    let before = marked_a w.a w.b w.to_a.items w.to_b.items c.self.invariant c.args.self.now c.self.view_is c.args.side c.in-A.is m c.mark.ensures in
    is_seen m (end_at c.args.self.now c.args.side) before (λ g z. option_map (λ o. outcome_of o) c.take.result ≡ outcome_in (state_of c.args.root z.tables.roots)) c.take.ensures.outcome

pub returns-in-A-clause-entered : goal.returns-in-A-clause-entered
returns-in-A-clause-entered c =
    let w = c.self.inside in
    let m = c.mark.new.end in
    let e = c.take.new.self in
    let goes = goes_some m w.to_a.items w.to_b.items (λ o. took c.args.root) (λ o. record { given = tt; none_in = refl; none_out = refl }) c.take.result e c.take.ensures.entered c.take.ensures.kept in
    let calls = calls_a w.a w.b w.to_a.items w.to_b.items c.self.invariant c.args.self.now c.self.view_is c.args.side c.in-A.is m c.mark.ensures e w.to_a.items w.to_b.items goes in
    if_some _ _ (λ o is. did c.args.side c.args.self.now (joined e w.b) m e calls (with_entry (took c.args.root)) (unmark_more (took c.args.root)) is) c.take.result c.take.ensures.entered

pub returns-in-A-clause-kept : goal.returns-in-A-clause-kept
returns-in-A-clause-kept c =
    let w = c.self.inside in
    let m = c.mark.new.end in
    let e = c.take.new.self in
    let goes = goes_some m w.to_a.items w.to_b.items (λ o. took c.args.root) (λ o. record { given = tt; none_in = refl; none_out = refl }) c.take.result e c.take.ensures.entered c.take.ensures.kept in
    let calls = calls_a w.a w.b w.to_a.items w.to_b.items c.self.invariant c.args.self.now c.self.view_is c.args.side c.in-A.is m c.mark.ensures e w.to_a.items w.to_b.items goes in
    if_none (λ is. did c.args.side c.args.self.now (joined e w.b) m e calls (λ x. x) (λ x. refl) is) c.take.result c.take.ensures.kept

pub returns-in-A-clause-others : goal.returns-in-A-clause-others
returns-in-A-clause-others c =
    let w = c.self.inside in
    let m = c.mark.new.end in
    let e = c.take.new.self in
    let goes = goes_some m w.to_a.items w.to_b.items (λ o. took c.args.root) (λ o. record { given = tt; none_in = refl; none_out = refl }) c.take.result e c.take.ensures.entered c.take.ensures.kept in
    let calls = calls_a w.a w.b w.to_a.items w.to_b.items c.self.invariant c.args.self.now c.self.view_is c.args.side c.in-A.is m c.mark.ensures e w.to_a.items w.to_b.items goes in
    λ other has apart. calls.others other apart

pub returns-in-A-clause-history : goal.returns-in-A-clause-history
returns-in-A-clause-history c =
    let w = c.self.inside in
    let m = c.mark.new.end in
    let e = c.take.new.self in
    let goes = goes_some m w.to_a.items w.to_b.items (λ o. took c.args.root) (λ o. record { given = tt; none_in = refl; none_out = refl }) c.take.result e c.take.ensures.entered c.take.ensures.kept in
    let calls = calls_a w.a w.b w.to_a.items w.to_b.items c.self.invariant c.args.self.now c.self.view_is c.args.side c.in-A.is m c.mark.ensures e w.to_a.items w.to_b.items goes in
    calls.grows

pub invariant_of-self : goal.invariant_of-self
invariant_of-self c =
    let w = c.self.inside in
    let m = c.mark.new.end in
    let e = c.take.new.self in
    let goes = goes_some m w.to_a.items w.to_b.items (λ o. took c.args.root) (λ o. record { given = tt; none_in = refl; none_out = refl }) c.take.result e c.take.ensures.entered c.take.ensures.kept in
    world_a w.a w.b w.to_a.items w.to_b.items c.self.invariant c.args.self.now c.self.view_is c.args.side c.in-A.is m c.mark.ensures e w.to_a.items w.to_b.items goes

pub returns-in-B-clause-outcome : goal.returns-in-B-clause-outcome
returns-in-B-clause-outcome c =
    let w = c.self.inside in
    let m = c.mark-in-B.new.end in
    let before = marked_b w.a w.b w.to_a.items w.to_b.items c.self.invariant c.args.self.now c.self.view_is c.args.side c.in-B.is m c.mark-in-B.ensures in
    is_seen m (end_at c.args.self.now c.args.side) before (λ g z. option_map (λ o. outcome_of o) c.take-in-B.result ≡ outcome_in (state_of c.args.root z.tables.roots)) c.take-in-B.ensures.outcome

pub returns-in-B-clause-entered : goal.returns-in-B-clause-entered
returns-in-B-clause-entered c =
    let w = c.self.inside in
    let m = c.mark-in-B.new.end in
    let e = c.take-in-B.new.self in
    let goes = goes_some m w.to_b.items w.to_a.items (λ o. took c.args.root) (λ o. record { given = tt; none_in = refl; none_out = refl }) c.take-in-B.result e c.take-in-B.ensures.entered c.take-in-B.ensures.kept in
    let calls = calls_b w.a w.b w.to_a.items w.to_b.items c.self.invariant c.args.self.now c.self.view_is c.args.side c.in-B.is m c.mark-in-B.ensures e w.to_b.items w.to_a.items goes in
    if_some _ _ (λ o is. did c.args.side c.args.self.now (joined w.a e) m e calls (with_entry (took c.args.root)) (unmark_more (took c.args.root)) is) c.take-in-B.result c.take-in-B.ensures.entered

pub returns-in-B-clause-kept : goal.returns-in-B-clause-kept
returns-in-B-clause-kept c =
    let w = c.self.inside in
    let m = c.mark-in-B.new.end in
    let e = c.take-in-B.new.self in
    let goes = goes_some m w.to_b.items w.to_a.items (λ o. took c.args.root) (λ o. record { given = tt; none_in = refl; none_out = refl }) c.take-in-B.result e c.take-in-B.ensures.entered c.take-in-B.ensures.kept in
    let calls = calls_b w.a w.b w.to_a.items w.to_b.items c.self.invariant c.args.self.now c.self.view_is c.args.side c.in-B.is m c.mark-in-B.ensures e w.to_b.items w.to_a.items goes in
    if_none (λ is. did c.args.side c.args.self.now (joined w.a e) m e calls (λ x. x) (λ x. refl) is) c.take-in-B.result c.take-in-B.ensures.kept

pub returns-in-B-clause-others : goal.returns-in-B-clause-others
returns-in-B-clause-others c =
    let w = c.self.inside in
    let m = c.mark-in-B.new.end in
    let e = c.take-in-B.new.self in
    let goes = goes_some m w.to_b.items w.to_a.items (λ o. took c.args.root) (λ o. record { given = tt; none_in = refl; none_out = refl }) c.take-in-B.result e c.take-in-B.ensures.entered c.take-in-B.ensures.kept in
    let calls = calls_b w.a w.b w.to_a.items w.to_b.items c.self.invariant c.args.self.now c.self.view_is c.args.side c.in-B.is m c.mark-in-B.ensures e w.to_b.items w.to_a.items goes in
    λ other has apart. calls.others other apart

pub returns-in-B-clause-history : goal.returns-in-B-clause-history
returns-in-B-clause-history c =
    let w = c.self.inside in
    let m = c.mark-in-B.new.end in
    let e = c.take-in-B.new.self in
    let goes = goes_some m w.to_b.items w.to_a.items (λ o. took c.args.root) (λ o. record { given = tt; none_in = refl; none_out = refl }) c.take-in-B.result e c.take-in-B.ensures.entered c.take-in-B.ensures.kept in
    let calls = calls_b w.a w.b w.to_a.items w.to_b.items c.self.invariant c.args.self.now c.self.view_is c.args.side c.in-B.is m c.mark-in-B.ensures e w.to_b.items w.to_a.items goes in
    calls.grows

pub invariant_of-self-in-B : goal.invariant_of-self-in-B
invariant_of-self-in-B c =
    let w = c.self.inside in
    let m = c.mark-in-B.new.end in
    let e = c.take-in-B.new.self in
    let goes = goes_some m w.to_b.items w.to_a.items (λ o. took c.args.root) (λ o. record { given = tt; none_in = refl; none_out = refl }) c.take-in-B.result e c.take-in-B.ensures.entered c.take-in-B.ensures.kept in
    world_b w.a w.b w.to_a.items w.to_b.items c.self.invariant c.args.self.now c.self.view_is c.args.side c.in-B.is m c.mark-in-B.ensures e w.to_b.items w.to_a.items goes
