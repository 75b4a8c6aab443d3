use Rattle.std.proofs.Common.{◌≡◌, refl, true, false, OnOk, OnErr}
use Rattle.bridge_world.specs.Joined.{end_at, joined}
use Rattle.bridge_endpoint.specs.Journals.{with_entry}
use Rattle.bridge_model.specs.Entries.{dropped}
use Rattle.bridge_model.specs.Roots.{holds_pair}
use Rattle.bridge_world.proofs.EndCalls.{calls_a, calls_b, did, is_seen, marked_a, marked_b, on_err, on_ok, world_a, world_b}
use Rattle.bridge_world.proofs.OneEntry.{goes_ok}
use Rattle.bridge_world.proofs.Unmarked.{unmark_more}
use Rattle.bridge_world.proofs.ends.WorldEnds.drop_ref.Goals as goal

pub returns-in-A-clause-held : goal.returns-in-A-clause-held
returns-in-A-clause-held c =
    let w = c.self.inside in
    let m = c.mark.new.end in
    let before = marked_a w.a w.b w.to_a.items w.to_b.items c.self.invariant c.args.self.now c.self.view_is c.args.side c.in-A.is m c.mark.ensures in
    is_seen m (end_at c.args.self.now c.args.side) before (λ g z. OnOk c.drop_ref.result (holds_pair c.args.root c.args.oid c.args.face z.tables ≡ true)) c.drop_ref.ensures.held

pub returns-in-A-clause-not_held : goal.returns-in-A-clause-not_held
returns-in-A-clause-not_held c =
    let w = c.self.inside in
    let m = c.mark.new.end in
    let before = marked_a w.a w.b w.to_a.items w.to_b.items c.self.invariant c.args.self.now c.self.view_is c.args.side c.in-A.is m c.mark.ensures in
    is_seen m (end_at c.args.self.now c.args.side) before (λ g z. OnErr c.drop_ref.result (holds_pair c.args.root c.args.oid c.args.face z.tables ≡ false)) c.drop_ref.ensures.not_held

pub returns-in-A-clause-entered : goal.returns-in-A-clause-entered
returns-in-A-clause-entered c =
    let w = c.self.inside in
    let m = c.mark.new.end in
    let e = c.drop_ref.new.self in
    let goes = goes_ok m w.to_a.items w.to_b.items (dropped c.args.root c.args.oid c.args.face) (record { given = tt; none_in = refl; none_out = refl }) c.drop_ref.result e c.drop_ref.ensures.entered c.drop_ref.ensures.kept in
    let calls = calls_a w.a w.b w.to_a.items w.to_b.items c.self.invariant c.args.self.now c.self.view_is c.args.side c.in-A.is m c.mark.ensures e w.to_a.items w.to_b.items goes in
    on_ok (λ is. did c.args.side c.args.self.now (joined e w.b) m e calls (with_entry (dropped c.args.root c.args.oid c.args.face)) (unmark_more (dropped c.args.root c.args.oid c.args.face)) is) c.drop_ref.result c.drop_ref.ensures.entered

pub returns-in-A-clause-kept : goal.returns-in-A-clause-kept
returns-in-A-clause-kept c =
    let w = c.self.inside in
    let m = c.mark.new.end in
    let e = c.drop_ref.new.self in
    let goes = goes_ok m w.to_a.items w.to_b.items (dropped c.args.root c.args.oid c.args.face) (record { given = tt; none_in = refl; none_out = refl }) c.drop_ref.result e c.drop_ref.ensures.entered c.drop_ref.ensures.kept in
    let calls = calls_a w.a w.b w.to_a.items w.to_b.items c.self.invariant c.args.self.now c.self.view_is c.args.side c.in-A.is m c.mark.ensures e w.to_a.items w.to_b.items goes in
    on_err (λ is. did c.args.side c.args.self.now (joined e w.b) m e calls (λ x. x) (λ x. refl) is) c.drop_ref.result c.drop_ref.ensures.kept

pub returns-in-A-clause-others : goal.returns-in-A-clause-others
returns-in-A-clause-others c =
    let w = c.self.inside in
    let m = c.mark.new.end in
    let e = c.drop_ref.new.self in
    let goes = goes_ok m w.to_a.items w.to_b.items (dropped c.args.root c.args.oid c.args.face) (record { given = tt; none_in = refl; none_out = refl }) c.drop_ref.result e c.drop_ref.ensures.entered c.drop_ref.ensures.kept in
    let calls = calls_a w.a w.b w.to_a.items w.to_b.items c.self.invariant c.args.self.now c.self.view_is c.args.side c.in-A.is m c.mark.ensures e w.to_a.items w.to_b.items goes in
    λ other has apart. calls.others other apart

pub returns-in-A-clause-history : goal.returns-in-A-clause-history
returns-in-A-clause-history c =
    let w = c.self.inside in
    let m = c.mark.new.end in
    let e = c.drop_ref.new.self in
    let goes = goes_ok m w.to_a.items w.to_b.items (dropped c.args.root c.args.oid c.args.face) (record { given = tt; none_in = refl; none_out = refl }) c.drop_ref.result e c.drop_ref.ensures.entered c.drop_ref.ensures.kept in
    let calls = calls_a w.a w.b w.to_a.items w.to_b.items c.self.invariant c.args.self.now c.self.view_is c.args.side c.in-A.is m c.mark.ensures e w.to_a.items w.to_b.items goes in
    calls.grows

pub invariant_of-self : goal.invariant_of-self
invariant_of-self c =
    let w = c.self.inside in
    let m = c.mark.new.end in
    let e = c.drop_ref.new.self in
    let goes = goes_ok m w.to_a.items w.to_b.items (dropped c.args.root c.args.oid c.args.face) (record { given = tt; none_in = refl; none_out = refl }) c.drop_ref.result e c.drop_ref.ensures.entered c.drop_ref.ensures.kept in
    world_a w.a w.b w.to_a.items w.to_b.items c.self.invariant c.args.self.now c.self.view_is c.args.side c.in-A.is m c.mark.ensures e w.to_a.items w.to_b.items goes

pub returns-in-B-clause-held : goal.returns-in-B-clause-held
returns-in-B-clause-held c =
    let w = c.self.inside in
    let m = c.mark-in-B.new.end in
    let before = marked_b w.a w.b w.to_a.items w.to_b.items c.self.invariant c.args.self.now c.self.view_is c.args.side c.in-B.is m c.mark-in-B.ensures in
    is_seen m (end_at c.args.self.now c.args.side) before (λ g z. OnOk c.drop_ref-in-B.result (holds_pair c.args.root c.args.oid c.args.face z.tables ≡ true)) c.drop_ref-in-B.ensures.held

pub returns-in-B-clause-not_held : goal.returns-in-B-clause-not_held
returns-in-B-clause-not_held c =
    let w = c.self.inside in
    let m = c.mark-in-B.new.end in
    let before = marked_b w.a w.b w.to_a.items w.to_b.items c.self.invariant c.args.self.now c.self.view_is c.args.side c.in-B.is m c.mark-in-B.ensures in
    is_seen m (end_at c.args.self.now c.args.side) before (λ g z. OnErr c.drop_ref-in-B.result (holds_pair c.args.root c.args.oid c.args.face z.tables ≡ false)) c.drop_ref-in-B.ensures.not_held

pub returns-in-B-clause-entered : goal.returns-in-B-clause-entered
returns-in-B-clause-entered c =
    let w = c.self.inside in
    let m = c.mark-in-B.new.end in
    let e = c.drop_ref-in-B.new.self in
    let goes = goes_ok m w.to_b.items w.to_a.items (dropped c.args.root c.args.oid c.args.face) (record { given = tt; none_in = refl; none_out = refl }) c.drop_ref-in-B.result e c.drop_ref-in-B.ensures.entered c.drop_ref-in-B.ensures.kept in
    let calls = calls_b w.a w.b w.to_a.items w.to_b.items c.self.invariant c.args.self.now c.self.view_is c.args.side c.in-B.is m c.mark-in-B.ensures e w.to_b.items w.to_a.items goes in
    on_ok (λ is. did c.args.side c.args.self.now (joined w.a e) m e calls (with_entry (dropped c.args.root c.args.oid c.args.face)) (unmark_more (dropped c.args.root c.args.oid c.args.face)) is) c.drop_ref-in-B.result c.drop_ref-in-B.ensures.entered

pub returns-in-B-clause-kept : goal.returns-in-B-clause-kept
returns-in-B-clause-kept c =
    let w = c.self.inside in
    let m = c.mark-in-B.new.end in
    let e = c.drop_ref-in-B.new.self in
    let goes = goes_ok m w.to_b.items w.to_a.items (dropped c.args.root c.args.oid c.args.face) (record { given = tt; none_in = refl; none_out = refl }) c.drop_ref-in-B.result e c.drop_ref-in-B.ensures.entered c.drop_ref-in-B.ensures.kept in
    let calls = calls_b w.a w.b w.to_a.items w.to_b.items c.self.invariant c.args.self.now c.self.view_is c.args.side c.in-B.is m c.mark-in-B.ensures e w.to_b.items w.to_a.items goes in
    on_err (λ is. did c.args.side c.args.self.now (joined w.a e) m e calls (λ x. x) (λ x. refl) is) c.drop_ref-in-B.result c.drop_ref-in-B.ensures.kept

pub returns-in-B-clause-others : goal.returns-in-B-clause-others
returns-in-B-clause-others c =
    let w = c.self.inside in
    let m = c.mark-in-B.new.end in
    let e = c.drop_ref-in-B.new.self in
    let goes = goes_ok m w.to_b.items w.to_a.items (dropped c.args.root c.args.oid c.args.face) (record { given = tt; none_in = refl; none_out = refl }) c.drop_ref-in-B.result e c.drop_ref-in-B.ensures.entered c.drop_ref-in-B.ensures.kept in
    let calls = calls_b w.a w.b w.to_a.items w.to_b.items c.self.invariant c.args.self.now c.self.view_is c.args.side c.in-B.is m c.mark-in-B.ensures e w.to_b.items w.to_a.items goes in
    λ other has apart. calls.others other apart

pub returns-in-B-clause-history : goal.returns-in-B-clause-history
returns-in-B-clause-history c =
    let w = c.self.inside in
    let m = c.mark-in-B.new.end in
    let e = c.drop_ref-in-B.new.self in
    let goes = goes_ok m w.to_b.items w.to_a.items (dropped c.args.root c.args.oid c.args.face) (record { given = tt; none_in = refl; none_out = refl }) c.drop_ref-in-B.result e c.drop_ref-in-B.ensures.entered c.drop_ref-in-B.ensures.kept in
    let calls = calls_b w.a w.b w.to_a.items w.to_b.items c.self.invariant c.args.self.now c.self.view_is c.args.side c.in-B.is m c.mark-in-B.ensures e w.to_b.items w.to_a.items goes in
    calls.grows

pub invariant_of-self-in-B : goal.invariant_of-self-in-B
invariant_of-self-in-B c =
    let w = c.self.inside in
    let m = c.mark-in-B.new.end in
    let e = c.drop_ref-in-B.new.self in
    let goes = goes_ok m w.to_b.items w.to_a.items (dropped c.args.root c.args.oid c.args.face) (record { given = tt; none_in = refl; none_out = refl }) c.drop_ref-in-B.result e c.drop_ref-in-B.ensures.entered c.drop_ref-in-B.ensures.kept in
    world_b w.a w.b w.to_a.items w.to_b.items c.self.invariant c.args.self.now c.self.view_is c.args.side c.in-B.is m c.mark-in-B.ensures e w.to_b.items w.to_a.items goes
