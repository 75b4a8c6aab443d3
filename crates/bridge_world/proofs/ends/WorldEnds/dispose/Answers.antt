use Rattle.std.proofs.Common.{◌≡◌, refl, true, false}
use Rattle.bridge_world.specs.Joined.{end_at, joined}
use Rattle.bridge_endpoint.specs.Journals.{side_at, with_entry}
use Rattle.bridge_model.specs.Entries.{disposed}
use Rattle.bridge_model.specs.Sides.{stands}
use Rattle.bridge_world.proofs.EndCalls.{calls_a, calls_b, did, is_there, world_a, world_b}
use Rattle.bridge_world.proofs.OneEntry.{goes_where}
use Rattle.bridge_world.proofs.Unmarked.{unmark_more}
use Rattle.bridge_world.proofs.ends.WorldEnds.dispose.Goals as goal

pub returns-in-A-clause-disposed : goal.returns-in-A-clause-disposed
returns-in-A-clause-disposed c when =
    let w = c.self.inside in
    let m = c.mark.new.end in
    let e = c.dispose.new.self in
    let goes = goes_where m w.to_a.items w.to_b.items (disposed) (record { given = tt; none_in = refl; none_out = refl }) (stands (side_at m)) e c.dispose.ensures.disposed c.dispose.ensures.kept in
    let calls = calls_a w.a w.b w.to_a.items w.to_b.items c.self.invariant c.args.self.now c.self.view_is c.args.side c.in-A.is m c.mark.ensures e w.to_a.items w.to_b.items goes in
    did c.args.side c.args.self.now (joined e w.b) m e calls (with_entry (disposed)) (unmark_more (disposed)) (c.dispose.ensures.disposed (is_there m (end_at c.args.self.now c.args.side) calls.before (λ g z. stands z ≡ true) when))

pub returns-in-A-clause-kept : goal.returns-in-A-clause-kept
returns-in-A-clause-kept c when =
    let w = c.self.inside in
    let m = c.mark.new.end in
    let e = c.dispose.new.self in
    let goes = goes_where m w.to_a.items w.to_b.items (disposed) (record { given = tt; none_in = refl; none_out = refl }) (stands (side_at m)) e c.dispose.ensures.disposed c.dispose.ensures.kept in
    let calls = calls_a w.a w.b w.to_a.items w.to_b.items c.self.invariant c.args.self.now c.self.view_is c.args.side c.in-A.is m c.mark.ensures e w.to_a.items w.to_b.items goes in
    did c.args.side c.args.self.now (joined e w.b) m e calls (λ x. x) (λ x. refl) (c.dispose.ensures.kept (is_there m (end_at c.args.self.now c.args.side) calls.before (λ g z. stands z ≡ false) when))

pub returns-in-A-clause-others : goal.returns-in-A-clause-others
returns-in-A-clause-others c =
    let w = c.self.inside in
    let m = c.mark.new.end in
    let e = c.dispose.new.self in
    let goes = goes_where m w.to_a.items w.to_b.items (disposed) (record { given = tt; none_in = refl; none_out = refl }) (stands (side_at m)) e c.dispose.ensures.disposed c.dispose.ensures.kept in
    let calls = calls_a w.a w.b w.to_a.items w.to_b.items c.self.invariant c.args.self.now c.self.view_is c.args.side c.in-A.is m c.mark.ensures e w.to_a.items w.to_b.items goes in
    λ other has apart. calls.others other apart

pub returns-in-A-clause-history : goal.returns-in-A-clause-history
returns-in-A-clause-history c =
    let w = c.self.inside in
    let m = c.mark.new.end in
    let e = c.dispose.new.self in
    let goes = goes_where m w.to_a.items w.to_b.items (disposed) (record { given = tt; none_in = refl; none_out = refl }) (stands (side_at m)) e c.dispose.ensures.disposed c.dispose.ensures.kept in
    let calls = calls_a w.a w.b w.to_a.items w.to_b.items c.self.invariant c.args.self.now c.self.view_is c.args.side c.in-A.is m c.mark.ensures e w.to_a.items w.to_b.items goes in
    calls.grows

pub invariant_of-self : goal.invariant_of-self
invariant_of-self c =
    let w = c.self.inside in
    let m = c.mark.new.end in
    let e = c.dispose.new.self in
    let goes = goes_where m w.to_a.items w.to_b.items (disposed) (record { given = tt; none_in = refl; none_out = refl }) (stands (side_at m)) e c.dispose.ensures.disposed c.dispose.ensures.kept in
    world_a w.a w.b w.to_a.items w.to_b.items c.self.invariant c.args.self.now c.self.view_is c.args.side c.in-A.is m c.mark.ensures e w.to_a.items w.to_b.items goes

pub returns-in-B-clause-disposed : goal.returns-in-B-clause-disposed
returns-in-B-clause-disposed c when =
    let w = c.self.inside in
    let m = c.mark-in-B.new.end in
    let e = c.dispose-in-B.new.self in
    let goes = goes_where m w.to_b.items w.to_a.items (disposed) (record { given = tt; none_in = refl; none_out = refl }) (stands (side_at m)) e c.dispose-in-B.ensures.disposed c.dispose-in-B.ensures.kept in
    let calls = calls_b w.a w.b w.to_a.items w.to_b.items c.self.invariant c.args.self.now c.self.view_is c.args.side c.in-B.is m c.mark-in-B.ensures e w.to_b.items w.to_a.items goes in
    did c.args.side c.args.self.now (joined w.a e) m e calls (with_entry (disposed)) (unmark_more (disposed)) (c.dispose-in-B.ensures.disposed (is_there m (end_at c.args.self.now c.args.side) calls.before (λ g z. stands z ≡ true) when))

pub returns-in-B-clause-kept : goal.returns-in-B-clause-kept
returns-in-B-clause-kept c when =
    let w = c.self.inside in
    let m = c.mark-in-B.new.end in
    let e = c.dispose-in-B.new.self in
    let goes = goes_where m w.to_b.items w.to_a.items (disposed) (record { given = tt; none_in = refl; none_out = refl }) (stands (side_at m)) e c.dispose-in-B.ensures.disposed c.dispose-in-B.ensures.kept in
    let calls = calls_b w.a w.b w.to_a.items w.to_b.items c.self.invariant c.args.self.now c.self.view_is c.args.side c.in-B.is m c.mark-in-B.ensures e w.to_b.items w.to_a.items goes in
    did c.args.side c.args.self.now (joined w.a e) m e calls (λ x. x) (λ x. refl) (c.dispose-in-B.ensures.kept (is_there m (end_at c.args.self.now c.args.side) calls.before (λ g z. stands z ≡ false) when))

pub returns-in-B-clause-others : goal.returns-in-B-clause-others
returns-in-B-clause-others c =
    let w = c.self.inside in
    let m = c.mark-in-B.new.end in
    let e = c.dispose-in-B.new.self in
    let goes = goes_where m w.to_b.items w.to_a.items (disposed) (record { given = tt; none_in = refl; none_out = refl }) (stands (side_at m)) e c.dispose-in-B.ensures.disposed c.dispose-in-B.ensures.kept in
    let calls = calls_b w.a w.b w.to_a.items w.to_b.items c.self.invariant c.args.self.now c.self.view_is c.args.side c.in-B.is m c.mark-in-B.ensures e w.to_b.items w.to_a.items goes in
    λ other has apart. calls.others other apart

pub returns-in-B-clause-history : goal.returns-in-B-clause-history
returns-in-B-clause-history c =
    let w = c.self.inside in
    let m = c.mark-in-B.new.end in
    let e = c.dispose-in-B.new.self in
    let goes = goes_where m w.to_b.items w.to_a.items (disposed) (record { given = tt; none_in = refl; none_out = refl }) (stands (side_at m)) e c.dispose-in-B.ensures.disposed c.dispose-in-B.ensures.kept in
    let calls = calls_b w.a w.b w.to_a.items w.to_b.items c.self.invariant c.args.self.now c.self.view_is c.args.side c.in-B.is m c.mark-in-B.ensures e w.to_b.items w.to_a.items goes in
    calls.grows

pub invariant_of-self-in-B : goal.invariant_of-self-in-B
invariant_of-self-in-B c =
    let w = c.self.inside in
    let m = c.mark-in-B.new.end in
    let e = c.dispose-in-B.new.self in
    let goes = goes_where m w.to_b.items w.to_a.items (disposed) (record { given = tt; none_in = refl; none_out = refl }) (stands (side_at m)) e c.dispose-in-B.ensures.disposed c.dispose-in-B.ensures.kept in
    world_b w.a w.b w.to_a.items w.to_b.items c.self.invariant c.args.self.now c.self.view_is c.args.side c.in-B.is m c.mark-in-B.ensures e w.to_b.items w.to_a.items goes
