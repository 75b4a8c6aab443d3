use Rattle.std.proofs.Common.{◌≡◌, ◌≢◌, refl, true, suc}
use Rattle.bridge_world.specs.Joined.{end_at, joined}
use Rattle.bridge_endpoint.specs.Answering.{IsMadeOid, made_answer, made_told}
use Rattle.bridge_endpoint.specs.Entering.{made_by}
use Rattle.bridge_model.specs.Answers.{no_room_left}
use Rattle.bridge_model.specs.Entries.{made}
use Rattle.bridge_model.specs.Settings.{own_oid}
use Rattle.bridge_model.specs.Steps.{is_root}
use Rattle.bridge_laws.specs.Giving.{MayGive}
use Rattle.bridge_world.proofs.EndCalls.{calls_a, calls_b, did, is_seen, is_there, marked_a, marked_b, went, world_a, world_b}
use Rattle.bridge_world.proofs.CallLaws.{goes_made}
use Rattle.bridge_world.proofs.Unmarked.{unmark_made}
use Rattle.bridge_world.proofs.ends.WorldEnds.make.Goals as goal

pub make-requires-clause-root : goal.make-requires-clause-root
make-requires-clause-root c =
    let w = c.self.inside in
    let m = c.mark.new.end in
    let before = marked_a w.a w.b w.to_a.items w.to_b.items c.self.invariant c.args.self.now c.self.view_is c.args.side c.in-A.is m c.mark.ensures in
    is_there m (end_at c.args.self.now c.args.side) before (λ g z. is_root g c.args.root ≡ true) c.requires.root

pub make-requires-clause-supports : goal.make-requires-clause-supports
make-requires-clause-supports c =
    let w = c.self.inside in
    let m = c.mark.new.end in
    let before = marked_a w.a w.b w.to_a.items w.to_b.items c.self.invariant c.args.self.now c.self.view_is c.args.side c.in-A.is m c.mark.ensures in
    is_there m (end_at c.args.self.now c.args.side) before (λ g z. MayGive g (made c.args.root c.args.behaviour c.args.wanted.now)) c.requires.supports

pub returns-in-A-clause-answer : goal.returns-in-A-clause-answer
returns-in-A-clause-answer c =
    let w = c.self.inside in
    let m = c.mark.new.end in
    let before = marked_a w.a w.b w.to_a.items w.to_b.items c.self.invariant c.args.self.now c.self.view_is c.args.side c.in-A.is m c.mark.ensures in
    is_seen m (end_at c.args.self.now c.args.side) before (λ g z. made_told c.make.result ≢ no_room_left → made_told c.make.result ≡ made_answer z) c.make.ensures.answer

pub returns-in-A-clause-identity : goal.returns-in-A-clause-identity
returns-in-A-clause-identity c =
    let w = c.self.inside in
    let m = c.mark.new.end in
    let before = marked_a w.a w.b w.to_a.items w.to_b.items c.self.invariant c.args.self.now c.self.view_is c.args.side c.in-A.is m c.mark.ensures in
    is_seen m (end_at c.args.self.now c.args.side) before (λ g z. IsMadeOid c.make.result (own_oid g (suc z.tables.objects_made))) c.make.ensures.identity

pub returns-in-A-clause-entered : goal.returns-in-A-clause-entered
returns-in-A-clause-entered c =
    let w = c.self.inside in
    let m = c.mark.new.end in
    let e = c.make.new.self in
    let goes = went m w.to_a.items w.to_b.items e (made_by c.make.result (made c.args.root c.args.behaviour c.args.wanted.now) m) w.to_a.items w.to_b.items c.make.ensures.entered (goes_made m w.to_a.items w.to_b.items (made c.args.root c.args.behaviour c.args.wanted.now) (record { given = tt; none_in = refl; none_out = refl }) c.make.result) in
    let calls = calls_a w.a w.b w.to_a.items w.to_b.items c.self.invariant c.args.self.now c.self.view_is c.args.side c.in-A.is m c.mark.ensures e w.to_a.items w.to_b.items goes in
    did c.args.side c.args.self.now (joined e w.b) m e calls (made_by c.make.result (made c.args.root c.args.behaviour c.args.wanted.now)) (unmark_made c.make.result (made c.args.root c.args.behaviour c.args.wanted.now)) c.make.ensures.entered

pub returns-in-A-clause-others : goal.returns-in-A-clause-others
returns-in-A-clause-others c =
    let w = c.self.inside in
    let m = c.mark.new.end in
    let e = c.make.new.self in
    let goes = went m w.to_a.items w.to_b.items e (made_by c.make.result (made c.args.root c.args.behaviour c.args.wanted.now) m) w.to_a.items w.to_b.items c.make.ensures.entered (goes_made m w.to_a.items w.to_b.items (made c.args.root c.args.behaviour c.args.wanted.now) (record { given = tt; none_in = refl; none_out = refl }) c.make.result) in
    let calls = calls_a w.a w.b w.to_a.items w.to_b.items c.self.invariant c.args.self.now c.self.view_is c.args.side c.in-A.is m c.mark.ensures e w.to_a.items w.to_b.items goes in
    λ other has apart. calls.others other apart

pub returns-in-A-clause-history : goal.returns-in-A-clause-history
returns-in-A-clause-history c =
    let w = c.self.inside in
    let m = c.mark.new.end in
    let e = c.make.new.self in
    let goes = went m w.to_a.items w.to_b.items e (made_by c.make.result (made c.args.root c.args.behaviour c.args.wanted.now) m) w.to_a.items w.to_b.items c.make.ensures.entered (goes_made m w.to_a.items w.to_b.items (made c.args.root c.args.behaviour c.args.wanted.now) (record { given = tt; none_in = refl; none_out = refl }) c.make.result) in
    let calls = calls_a w.a w.b w.to_a.items w.to_b.items c.self.invariant c.args.self.now c.self.view_is c.args.side c.in-A.is m c.mark.ensures e w.to_a.items w.to_b.items goes in
    calls.grows

pub invariant_of-self : goal.invariant_of-self
invariant_of-self c =
    let w = c.self.inside in
    let m = c.mark.new.end in
    let e = c.make.new.self in
    let goes = went m w.to_a.items w.to_b.items e (made_by c.make.result (made c.args.root c.args.behaviour c.args.wanted.now) m) w.to_a.items w.to_b.items c.make.ensures.entered (goes_made m w.to_a.items w.to_b.items (made c.args.root c.args.behaviour c.args.wanted.now) (record { given = tt; none_in = refl; none_out = refl }) c.make.result) in
    world_a w.a w.b w.to_a.items w.to_b.items c.self.invariant c.args.self.now c.self.view_is c.args.side c.in-A.is m c.mark.ensures e w.to_a.items w.to_b.items goes

pub make-requires-in-B-clause-root : goal.make-requires-in-B-clause-root
make-requires-in-B-clause-root c =
    let w = c.self.inside in
    let m = c.mark-in-B.new.end in
    let before = marked_b w.a w.b w.to_a.items w.to_b.items c.self.invariant c.args.self.now c.self.view_is c.args.side c.in-B.is m c.mark-in-B.ensures in
    is_there m (end_at c.args.self.now c.args.side) before (λ g z. is_root g c.args.root ≡ true) c.requires.root

pub make-requires-in-B-clause-supports : goal.make-requires-in-B-clause-supports
make-requires-in-B-clause-supports c =
    let w = c.self.inside in
    let m = c.mark-in-B.new.end in
    let before = marked_b w.a w.b w.to_a.items w.to_b.items c.self.invariant c.args.self.now c.self.view_is c.args.side c.in-B.is m c.mark-in-B.ensures in
    is_there m (end_at c.args.self.now c.args.side) before (λ g z. MayGive g (made c.args.root c.args.behaviour c.args.wanted.now)) c.requires.supports

pub returns-in-B-clause-answer : goal.returns-in-B-clause-answer
returns-in-B-clause-answer c =
    let w = c.self.inside in
    let m = c.mark-in-B.new.end in
    let before = marked_b w.a w.b w.to_a.items w.to_b.items c.self.invariant c.args.self.now c.self.view_is c.args.side c.in-B.is m c.mark-in-B.ensures in
    is_seen m (end_at c.args.self.now c.args.side) before (λ g z. made_told c.make-in-B.result ≢ no_room_left → made_told c.make-in-B.result ≡ made_answer z) c.make-in-B.ensures.answer

pub returns-in-B-clause-identity : goal.returns-in-B-clause-identity
returns-in-B-clause-identity c =
    let w = c.self.inside in
    let m = c.mark-in-B.new.end in
    let before = marked_b w.a w.b w.to_a.items w.to_b.items c.self.invariant c.args.self.now c.self.view_is c.args.side c.in-B.is m c.mark-in-B.ensures in
    is_seen m (end_at c.args.self.now c.args.side) before (λ g z. IsMadeOid c.make-in-B.result (own_oid g (suc z.tables.objects_made))) c.make-in-B.ensures.identity

pub returns-in-B-clause-entered : goal.returns-in-B-clause-entered
returns-in-B-clause-entered c =
    let w = c.self.inside in
    let m = c.mark-in-B.new.end in
    let e = c.make-in-B.new.self in
    let goes = went m w.to_b.items w.to_a.items e (made_by c.make-in-B.result (made c.args.root c.args.behaviour c.args.wanted.now) m) w.to_b.items w.to_a.items c.make-in-B.ensures.entered (goes_made m w.to_b.items w.to_a.items (made c.args.root c.args.behaviour c.args.wanted.now) (record { given = tt; none_in = refl; none_out = refl }) c.make-in-B.result) in
    let calls = calls_b w.a w.b w.to_a.items w.to_b.items c.self.invariant c.args.self.now c.self.view_is c.args.side c.in-B.is m c.mark-in-B.ensures e w.to_b.items w.to_a.items goes in
    did c.args.side c.args.self.now (joined w.a e) m e calls (made_by c.make-in-B.result (made c.args.root c.args.behaviour c.args.wanted.now)) (unmark_made c.make-in-B.result (made c.args.root c.args.behaviour c.args.wanted.now)) c.make-in-B.ensures.entered

pub returns-in-B-clause-others : goal.returns-in-B-clause-others
returns-in-B-clause-others c =
    let w = c.self.inside in
    let m = c.mark-in-B.new.end in
    let e = c.make-in-B.new.self in
    let goes = went m w.to_b.items w.to_a.items e (made_by c.make-in-B.result (made c.args.root c.args.behaviour c.args.wanted.now) m) w.to_b.items w.to_a.items c.make-in-B.ensures.entered (goes_made m w.to_b.items w.to_a.items (made c.args.root c.args.behaviour c.args.wanted.now) (record { given = tt; none_in = refl; none_out = refl }) c.make-in-B.result) in
    let calls = calls_b w.a w.b w.to_a.items w.to_b.items c.self.invariant c.args.self.now c.self.view_is c.args.side c.in-B.is m c.mark-in-B.ensures e w.to_b.items w.to_a.items goes in
    λ other has apart. calls.others other apart

pub returns-in-B-clause-history : goal.returns-in-B-clause-history
returns-in-B-clause-history c =
    let w = c.self.inside in
    let m = c.mark-in-B.new.end in
    let e = c.make-in-B.new.self in
    let goes = went m w.to_b.items w.to_a.items e (made_by c.make-in-B.result (made c.args.root c.args.behaviour c.args.wanted.now) m) w.to_b.items w.to_a.items c.make-in-B.ensures.entered (goes_made m w.to_b.items w.to_a.items (made c.args.root c.args.behaviour c.args.wanted.now) (record { given = tt; none_in = refl; none_out = refl }) c.make-in-B.result) in
    let calls = calls_b w.a w.b w.to_a.items w.to_b.items c.self.invariant c.args.self.now c.self.view_is c.args.side c.in-B.is m c.mark-in-B.ensures e w.to_b.items w.to_a.items goes in
    calls.grows

pub invariant_of-self-in-B : goal.invariant_of-self-in-B
invariant_of-self-in-B c =
    let w = c.self.inside in
    let m = c.mark-in-B.new.end in
    let e = c.make-in-B.new.self in
    let goes = went m w.to_b.items w.to_a.items e (made_by c.make-in-B.result (made c.args.root c.args.behaviour c.args.wanted.now) m) w.to_b.items w.to_a.items c.make-in-B.ensures.entered (goes_made m w.to_b.items w.to_a.items (made c.args.root c.args.behaviour c.args.wanted.now) (record { given = tt; none_in = refl; none_out = refl }) c.make-in-B.result) in
    world_b w.a w.b w.to_a.items w.to_b.items c.self.invariant c.args.self.now c.self.view_is c.args.side c.in-B.is m c.mark-in-B.ensures e w.to_b.items w.to_a.items goes
