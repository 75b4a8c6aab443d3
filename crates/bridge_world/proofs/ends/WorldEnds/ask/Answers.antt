use Rattle.std.proofs.Common.{◌≡◌, ◌≢◌, refl, true}
use Rattle.bridge_world.specs.Joined.{end_at, joined}
use Rattle.bridge_endpoint.specs.Answering.{begun_told}
use Rattle.bridge_endpoint.specs.Entering.{begun_by}
use Rattle.bridge_model.specs.Answers.{begun, no_room_left}
use Rattle.bridge_model.specs.Entries.{asked}
use Rattle.bridge_model.specs.Steps.{may_begin}
use Rattle.bridge_laws.specs.Giving.{MayGive}
use Rattle.bridge_world.proofs.EndCalls.{calls_a, calls_b, did, is_seen, is_there, marked_a, marked_b, went, world_a, world_b}
use Rattle.bridge_world.proofs.CallLaws.{goes_begun}
use Rattle.bridge_world.proofs.Unmarked.{unmark_begun}
use Rattle.bridge_world.proofs.ends.WorldEnds.ask.Goals as goal

pub ask-requires-clause-idle : goal.ask-requires-clause-idle
ask-requires-clause-idle c =
    let w = c.self.inside in
    let m = c.mark.new.end in
    let before = marked_a w.a w.b w.to_a.items w.to_b.items c.self.invariant c.args.self.now c.self.view_is c.args.side c.in-A.is m c.mark.ensures in
    is_there m (end_at c.args.self.now c.args.side) before (λ g z. may_begin g c.args.root z ≡ true) c.requires.idle

pub ask-requires-clause-gives : goal.ask-requires-clause-gives
ask-requires-clause-gives c =
    let w = c.self.inside in
    let m = c.mark.new.end in
    let before = marked_a w.a w.b w.to_a.items w.to_b.items c.self.invariant c.args.self.now c.self.view_is c.args.side c.in-A.is m c.mark.ensures in
    is_there m (end_at c.args.self.now c.args.side) before (λ g z. MayGive g (asked c.args.root c.args.name.now c.args.wanted.now)) c.requires.gives

pub returns-in-A-clause-answer : goal.returns-in-A-clause-answer
returns-in-A-clause-answer c =
    let w = c.self.inside in
    let m = c.mark.new.end in
    let before = marked_a w.a w.b w.to_a.items w.to_b.items c.self.invariant c.args.self.now c.self.view_is c.args.side c.in-A.is m c.mark.ensures in
    is_seen m (end_at c.args.self.now c.args.side) before (λ g z. begun_told c.ask.result ≢ no_room_left → begun_told c.ask.result ≡ begun g z (asked c.args.root c.args.name.now c.args.wanted.now)) c.ask.ensures.answer

pub returns-in-A-clause-entered : goal.returns-in-A-clause-entered
returns-in-A-clause-entered c =
    let w = c.self.inside in
    let m = c.mark.new.end in
    let e = c.ask.new.self in
    let goes = went m w.to_a.items w.to_b.items e (begun_by c.ask.result (asked c.args.root c.args.name.now c.args.wanted.now) m) w.to_a.items w.to_b.items c.ask.ensures.entered (goes_begun m w.to_a.items w.to_b.items (asked c.args.root c.args.name.now c.args.wanted.now) (record { given = c.text_is_utf8.ensures; none_in = refl; none_out = refl }) c.ask.result) in
    let calls = calls_a w.a w.b w.to_a.items w.to_b.items c.self.invariant c.args.self.now c.self.view_is c.args.side c.in-A.is m c.mark.ensures e w.to_a.items w.to_b.items goes in
    did c.args.side c.args.self.now (joined e w.b) m e calls (begun_by c.ask.result (asked c.args.root c.args.name.now c.args.wanted.now)) (unmark_begun c.ask.result (asked c.args.root c.args.name.now c.args.wanted.now)) c.ask.ensures.entered

pub returns-in-A-clause-others : goal.returns-in-A-clause-others
returns-in-A-clause-others c =
    let w = c.self.inside in
    let m = c.mark.new.end in
    let e = c.ask.new.self in
    let goes = went m w.to_a.items w.to_b.items e (begun_by c.ask.result (asked c.args.root c.args.name.now c.args.wanted.now) m) w.to_a.items w.to_b.items c.ask.ensures.entered (goes_begun m w.to_a.items w.to_b.items (asked c.args.root c.args.name.now c.args.wanted.now) (record { given = c.text_is_utf8.ensures; none_in = refl; none_out = refl }) c.ask.result) in
    let calls = calls_a w.a w.b w.to_a.items w.to_b.items c.self.invariant c.args.self.now c.self.view_is c.args.side c.in-A.is m c.mark.ensures e w.to_a.items w.to_b.items goes in
    λ other has apart. calls.others other apart

pub returns-in-A-clause-history : goal.returns-in-A-clause-history
returns-in-A-clause-history c =
    let w = c.self.inside in
    let m = c.mark.new.end in
    let e = c.ask.new.self in
    let goes = went m w.to_a.items w.to_b.items e (begun_by c.ask.result (asked c.args.root c.args.name.now c.args.wanted.now) m) w.to_a.items w.to_b.items c.ask.ensures.entered (goes_begun m w.to_a.items w.to_b.items (asked c.args.root c.args.name.now c.args.wanted.now) (record { given = c.text_is_utf8.ensures; none_in = refl; none_out = refl }) c.ask.result) in
    let calls = calls_a w.a w.b w.to_a.items w.to_b.items c.self.invariant c.args.self.now c.self.view_is c.args.side c.in-A.is m c.mark.ensures e w.to_a.items w.to_b.items goes in
    calls.grows

pub invariant_of-self : goal.invariant_of-self
invariant_of-self c =
    let w = c.self.inside in
    let m = c.mark.new.end in
    let e = c.ask.new.self in
    let goes = went m w.to_a.items w.to_b.items e (begun_by c.ask.result (asked c.args.root c.args.name.now c.args.wanted.now) m) w.to_a.items w.to_b.items c.ask.ensures.entered (goes_begun m w.to_a.items w.to_b.items (asked c.args.root c.args.name.now c.args.wanted.now) (record { given = c.text_is_utf8.ensures; none_in = refl; none_out = refl }) c.ask.result) in
    world_a w.a w.b w.to_a.items w.to_b.items c.self.invariant c.args.self.now c.self.view_is c.args.side c.in-A.is m c.mark.ensures e w.to_a.items w.to_b.items goes

pub ask-requires-in-B-clause-idle : goal.ask-requires-in-B-clause-idle
ask-requires-in-B-clause-idle c =
    let w = c.self.inside in
    let m = c.mark-in-B.new.end in
    let before = marked_b w.a w.b w.to_a.items w.to_b.items c.self.invariant c.args.self.now c.self.view_is c.args.side c.in-B.is m c.mark-in-B.ensures in
    is_there m (end_at c.args.self.now c.args.side) before (λ g z. may_begin g c.args.root z ≡ true) c.requires.idle

pub ask-requires-in-B-clause-gives : goal.ask-requires-in-B-clause-gives
ask-requires-in-B-clause-gives c =
    let w = c.self.inside in
    let m = c.mark-in-B.new.end in
    let before = marked_b w.a w.b w.to_a.items w.to_b.items c.self.invariant c.args.self.now c.self.view_is c.args.side c.in-B.is m c.mark-in-B.ensures in
    is_there m (end_at c.args.self.now c.args.side) before (λ g z. MayGive g (asked c.args.root c.args.name.now c.args.wanted.now)) c.requires.gives

pub returns-in-B-clause-answer : goal.returns-in-B-clause-answer
returns-in-B-clause-answer c =
    let w = c.self.inside in
    let m = c.mark-in-B.new.end in
    let before = marked_b w.a w.b w.to_a.items w.to_b.items c.self.invariant c.args.self.now c.self.view_is c.args.side c.in-B.is m c.mark-in-B.ensures in
    is_seen m (end_at c.args.self.now c.args.side) before (λ g z. begun_told c.ask-in-B.result ≢ no_room_left → begun_told c.ask-in-B.result ≡ begun g z (asked c.args.root c.args.name.now c.args.wanted.now)) c.ask-in-B.ensures.answer

pub returns-in-B-clause-entered : goal.returns-in-B-clause-entered
returns-in-B-clause-entered c =
    let w = c.self.inside in
    let m = c.mark-in-B.new.end in
    let e = c.ask-in-B.new.self in
    let goes = went m w.to_b.items w.to_a.items e (begun_by c.ask-in-B.result (asked c.args.root c.args.name.now c.args.wanted.now) m) w.to_b.items w.to_a.items c.ask-in-B.ensures.entered (goes_begun m w.to_b.items w.to_a.items (asked c.args.root c.args.name.now c.args.wanted.now) (record { given = c.text_is_utf8.ensures; none_in = refl; none_out = refl }) c.ask-in-B.result) in
    let calls = calls_b w.a w.b w.to_a.items w.to_b.items c.self.invariant c.args.self.now c.self.view_is c.args.side c.in-B.is m c.mark-in-B.ensures e w.to_b.items w.to_a.items goes in
    did c.args.side c.args.self.now (joined w.a e) m e calls (begun_by c.ask-in-B.result (asked c.args.root c.args.name.now c.args.wanted.now)) (unmark_begun c.ask-in-B.result (asked c.args.root c.args.name.now c.args.wanted.now)) c.ask-in-B.ensures.entered

pub returns-in-B-clause-others : goal.returns-in-B-clause-others
returns-in-B-clause-others c =
    let w = c.self.inside in
    let m = c.mark-in-B.new.end in
    let e = c.ask-in-B.new.self in
    let goes = went m w.to_b.items w.to_a.items e (begun_by c.ask-in-B.result (asked c.args.root c.args.name.now c.args.wanted.now) m) w.to_b.items w.to_a.items c.ask-in-B.ensures.entered (goes_begun m w.to_b.items w.to_a.items (asked c.args.root c.args.name.now c.args.wanted.now) (record { given = c.text_is_utf8.ensures; none_in = refl; none_out = refl }) c.ask-in-B.result) in
    let calls = calls_b w.a w.b w.to_a.items w.to_b.items c.self.invariant c.args.self.now c.self.view_is c.args.side c.in-B.is m c.mark-in-B.ensures e w.to_b.items w.to_a.items goes in
    λ other has apart. calls.others other apart

pub returns-in-B-clause-history : goal.returns-in-B-clause-history
returns-in-B-clause-history c =
    let w = c.self.inside in
    let m = c.mark-in-B.new.end in
    let e = c.ask-in-B.new.self in
    let goes = went m w.to_b.items w.to_a.items e (begun_by c.ask-in-B.result (asked c.args.root c.args.name.now c.args.wanted.now) m) w.to_b.items w.to_a.items c.ask-in-B.ensures.entered (goes_begun m w.to_b.items w.to_a.items (asked c.args.root c.args.name.now c.args.wanted.now) (record { given = c.text_is_utf8.ensures; none_in = refl; none_out = refl }) c.ask-in-B.result) in
    let calls = calls_b w.a w.b w.to_a.items w.to_b.items c.self.invariant c.args.self.now c.self.view_is c.args.side c.in-B.is m c.mark-in-B.ensures e w.to_b.items w.to_a.items goes in
    calls.grows

pub invariant_of-self-in-B : goal.invariant_of-self-in-B
invariant_of-self-in-B c =
    let w = c.self.inside in
    let m = c.mark-in-B.new.end in
    let e = c.ask-in-B.new.self in
    let goes = went m w.to_b.items w.to_a.items e (begun_by c.ask-in-B.result (asked c.args.root c.args.name.now c.args.wanted.now) m) w.to_b.items w.to_a.items c.ask-in-B.ensures.entered (goes_begun m w.to_b.items w.to_a.items (asked c.args.root c.args.name.now c.args.wanted.now) (record { given = c.text_is_utf8.ensures; none_in = refl; none_out = refl }) c.ask-in-B.result) in
    world_b w.a w.b w.to_a.items w.to_b.items c.self.invariant c.args.self.now c.self.view_is c.args.side c.in-B.is m c.mark-in-B.ensures e w.to_b.items w.to_a.items goes
