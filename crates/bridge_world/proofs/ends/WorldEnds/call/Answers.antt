use Rattle.std.proofs.Common.{◌≡◌, ◌≢◌, refl, true, List, map, subst}
use Rattle.bridge_world.specs.Joined.{end_at, joined}
use Rattle.bridge_endpoint.specs.Answering.{begun_told}
use Rattle.bridge_endpoint.specs.Entering.{begun_by}
use Rattle.bridge_model.specs.Answers.{begun, no_room_left}
use Rattle.bridge_model.specs.Entries.{called}
use Rattle.bridge_model.specs.Steps.{may_begin}
use Rattle.bridge_laws.specs.Giving.{MayGive}
use Rattle.std.specs.List.{AllByRecursion}
use Rattle.uno_model.specs.Spellable.{IsSpellable}
use Rattle.uno_values.specs.Values.{plain_of}
use Rattle.uno_values.specs.declared.value.Value.{Value}
use Rattle.bridge_world.proofs.EndCalls.{calls_a, calls_b, did, is_seen, is_there, marked_a, marked_b, went, world_a, world_b}
use Rattle.bridge_world.proofs.CallLaws.{goes_begun}
use Rattle.bridge_world.proofs.Unmarked.{unmark_begun}
use Rattle.bridge_world.proofs.ends.WorldEnds.call.Goals as goal

pub call-requires-clause-idle : goal.call-requires-clause-idle
call-requires-clause-idle c =
    let w = c.self.inside in
    let m = c.mark.new.end in
    let before = marked_a w.a w.b w.to_a.items w.to_b.items c.self.invariant c.args.self.now c.self.view_is c.args.side c.in-A.is m c.mark.ensures in
    is_there m (end_at c.args.self.now c.args.side) before (λ g z. may_begin g c.args.root z ≡ true) c.requires.idle

pub call-requires-clause-gives : goal.call-requires-clause-gives
call-requires-clause-gives c =
    let w = c.self.inside in
    let m = c.mark.new.end in
    let before = marked_a w.a w.b w.to_a.items w.to_b.items c.self.invariant c.args.self.now c.self.view_is c.args.side c.in-A.is m c.mark.ensures in
    is_there m (end_at c.args.self.now c.args.side) before (λ g z. MayGive g (called c.args.root c.args.oid.now c.args.face.now c.args.function (map plain_of c.args.args.items))) c.requires.gives

pub returns-in-A-clause-answer : goal.returns-in-A-clause-answer
returns-in-A-clause-answer c =
    let w = c.self.inside in
    let m = c.mark.new.end in
    let before = marked_a w.a w.b w.to_a.items w.to_b.items c.self.invariant c.args.self.now c.self.view_is c.args.side c.in-A.is m c.mark.ensures in
    is_seen m (end_at c.args.self.now c.args.side) before (λ g z. begun_told c.call.result ≢ no_room_left → begun_told c.call.result ≡ begun g z (called c.args.root c.args.oid.now c.args.face.now c.args.function (map plain_of c.args.args.items))) c.call.ensures.answer

pub returns-in-A-clause-entered : goal.returns-in-A-clause-entered
returns-in-A-clause-entered c =
    let w = c.self.inside in
    let m = c.mark.new.end in
    let e = c.call.new.self in
    let goes = went m w.to_a.items w.to_b.items e (begun_by c.call.result (called c.args.root c.args.oid.now c.args.face.now c.args.function (map plain_of c.args.args.items)) m) w.to_a.items w.to_b.items c.call.ensures.entered (goes_begun m w.to_a.items w.to_b.items (called c.args.root c.args.oid.now c.args.face.now c.args.function (map plain_of c.args.args.items)) (record { given = subst (λ (vs : List Value). AllByRecursion IsSpellable (map plain_of vs)) c.as_slice.ensures.value c.arguments_are_spellable.ensures; none_in = refl; none_out = refl }) c.call.result) in
    let calls = calls_a w.a w.b w.to_a.items w.to_b.items c.self.invariant c.args.self.now c.self.view_is c.args.side c.in-A.is m c.mark.ensures e w.to_a.items w.to_b.items goes in
    did c.args.side c.args.self.now (joined e w.b) m e calls (begun_by c.call.result (called c.args.root c.args.oid.now c.args.face.now c.args.function (map plain_of c.args.args.items))) (unmark_begun c.call.result (called c.args.root c.args.oid.now c.args.face.now c.args.function (map plain_of c.args.args.items))) c.call.ensures.entered

pub returns-in-A-clause-others : goal.returns-in-A-clause-others
returns-in-A-clause-others c =
    let w = c.self.inside in
    let m = c.mark.new.end in
    let e = c.call.new.self in
    let goes = went m w.to_a.items w.to_b.items e (begun_by c.call.result (called c.args.root c.args.oid.now c.args.face.now c.args.function (map plain_of c.args.args.items)) m) w.to_a.items w.to_b.items c.call.ensures.entered (goes_begun m w.to_a.items w.to_b.items (called c.args.root c.args.oid.now c.args.face.now c.args.function (map plain_of c.args.args.items)) (record { given = subst (λ (vs : List Value). AllByRecursion IsSpellable (map plain_of vs)) c.as_slice.ensures.value c.arguments_are_spellable.ensures; none_in = refl; none_out = refl }) c.call.result) in
    let calls = calls_a w.a w.b w.to_a.items w.to_b.items c.self.invariant c.args.self.now c.self.view_is c.args.side c.in-A.is m c.mark.ensures e w.to_a.items w.to_b.items goes in
    λ other has apart. calls.others other apart

pub returns-in-A-clause-history : goal.returns-in-A-clause-history
returns-in-A-clause-history c =
    let w = c.self.inside in
    let m = c.mark.new.end in
    let e = c.call.new.self in
    let goes = went m w.to_a.items w.to_b.items e (begun_by c.call.result (called c.args.root c.args.oid.now c.args.face.now c.args.function (map plain_of c.args.args.items)) m) w.to_a.items w.to_b.items c.call.ensures.entered (goes_begun m w.to_a.items w.to_b.items (called c.args.root c.args.oid.now c.args.face.now c.args.function (map plain_of c.args.args.items)) (record { given = subst (λ (vs : List Value). AllByRecursion IsSpellable (map plain_of vs)) c.as_slice.ensures.value c.arguments_are_spellable.ensures; none_in = refl; none_out = refl }) c.call.result) in
    let calls = calls_a w.a w.b w.to_a.items w.to_b.items c.self.invariant c.args.self.now c.self.view_is c.args.side c.in-A.is m c.mark.ensures e w.to_a.items w.to_b.items goes in
    calls.grows

pub invariant_of-self : goal.invariant_of-self
invariant_of-self c =
    let w = c.self.inside in
    let m = c.mark.new.end in
    let e = c.call.new.self in
    let goes = went m w.to_a.items w.to_b.items e (begun_by c.call.result (called c.args.root c.args.oid.now c.args.face.now c.args.function (map plain_of c.args.args.items)) m) w.to_a.items w.to_b.items c.call.ensures.entered (goes_begun m w.to_a.items w.to_b.items (called c.args.root c.args.oid.now c.args.face.now c.args.function (map plain_of c.args.args.items)) (record { given = subst (λ (vs : List Value). AllByRecursion IsSpellable (map plain_of vs)) c.as_slice.ensures.value c.arguments_are_spellable.ensures; none_in = refl; none_out = refl }) c.call.result) in
    world_a w.a w.b w.to_a.items w.to_b.items c.self.invariant c.args.self.now c.self.view_is c.args.side c.in-A.is m c.mark.ensures e w.to_a.items w.to_b.items goes

pub call-requires-in-B-clause-idle : goal.call-requires-in-B-clause-idle
call-requires-in-B-clause-idle c =
    let w = c.self.inside in
    let m = c.mark-in-B.new.end in
    let before = marked_b w.a w.b w.to_a.items w.to_b.items c.self.invariant c.args.self.now c.self.view_is c.args.side c.in-B.is m c.mark-in-B.ensures in
    is_there m (end_at c.args.self.now c.args.side) before (λ g z. may_begin g c.args.root z ≡ true) c.requires.idle

pub call-requires-in-B-clause-gives : goal.call-requires-in-B-clause-gives
call-requires-in-B-clause-gives c =
    let w = c.self.inside in
    let m = c.mark-in-B.new.end in
    let before = marked_b w.a w.b w.to_a.items w.to_b.items c.self.invariant c.args.self.now c.self.view_is c.args.side c.in-B.is m c.mark-in-B.ensures in
    is_there m (end_at c.args.self.now c.args.side) before (λ g z. MayGive g (called c.args.root c.args.oid.now c.args.face.now c.args.function (map plain_of c.args.args.items))) c.requires.gives

pub returns-in-B-clause-answer : goal.returns-in-B-clause-answer
returns-in-B-clause-answer c =
    let w = c.self.inside in
    let m = c.mark-in-B.new.end in
    let before = marked_b w.a w.b w.to_a.items w.to_b.items c.self.invariant c.args.self.now c.self.view_is c.args.side c.in-B.is m c.mark-in-B.ensures in
    is_seen m (end_at c.args.self.now c.args.side) before (λ g z. begun_told c.call-in-B.result ≢ no_room_left → begun_told c.call-in-B.result ≡ begun g z (called c.args.root c.args.oid.now c.args.face.now c.args.function (map plain_of c.args.args.items))) c.call-in-B.ensures.answer

pub returns-in-B-clause-entered : goal.returns-in-B-clause-entered
returns-in-B-clause-entered c =
    let w = c.self.inside in
    let m = c.mark-in-B.new.end in
    let e = c.call-in-B.new.self in
    let goes = went m w.to_b.items w.to_a.items e (begun_by c.call-in-B.result (called c.args.root c.args.oid.now c.args.face.now c.args.function (map plain_of c.args.args.items)) m) w.to_b.items w.to_a.items c.call-in-B.ensures.entered (goes_begun m w.to_b.items w.to_a.items (called c.args.root c.args.oid.now c.args.face.now c.args.function (map plain_of c.args.args.items)) (record { given = subst (λ (vs : List Value). AllByRecursion IsSpellable (map plain_of vs)) c.as_slice.ensures.value c.arguments_are_spellable.ensures; none_in = refl; none_out = refl }) c.call-in-B.result) in
    let calls = calls_b w.a w.b w.to_a.items w.to_b.items c.self.invariant c.args.self.now c.self.view_is c.args.side c.in-B.is m c.mark-in-B.ensures e w.to_b.items w.to_a.items goes in
    did c.args.side c.args.self.now (joined w.a e) m e calls (begun_by c.call-in-B.result (called c.args.root c.args.oid.now c.args.face.now c.args.function (map plain_of c.args.args.items))) (unmark_begun c.call-in-B.result (called c.args.root c.args.oid.now c.args.face.now c.args.function (map plain_of c.args.args.items))) c.call-in-B.ensures.entered

pub returns-in-B-clause-others : goal.returns-in-B-clause-others
returns-in-B-clause-others c =
    let w = c.self.inside in
    let m = c.mark-in-B.new.end in
    let e = c.call-in-B.new.self in
    let goes = went m w.to_b.items w.to_a.items e (begun_by c.call-in-B.result (called c.args.root c.args.oid.now c.args.face.now c.args.function (map plain_of c.args.args.items)) m) w.to_b.items w.to_a.items c.call-in-B.ensures.entered (goes_begun m w.to_b.items w.to_a.items (called c.args.root c.args.oid.now c.args.face.now c.args.function (map plain_of c.args.args.items)) (record { given = subst (λ (vs : List Value). AllByRecursion IsSpellable (map plain_of vs)) c.as_slice.ensures.value c.arguments_are_spellable.ensures; none_in = refl; none_out = refl }) c.call-in-B.result) in
    let calls = calls_b w.a w.b w.to_a.items w.to_b.items c.self.invariant c.args.self.now c.self.view_is c.args.side c.in-B.is m c.mark-in-B.ensures e w.to_b.items w.to_a.items goes in
    λ other has apart. calls.others other apart

pub returns-in-B-clause-history : goal.returns-in-B-clause-history
returns-in-B-clause-history c =
    let w = c.self.inside in
    let m = c.mark-in-B.new.end in
    let e = c.call-in-B.new.self in
    let goes = went m w.to_b.items w.to_a.items e (begun_by c.call-in-B.result (called c.args.root c.args.oid.now c.args.face.now c.args.function (map plain_of c.args.args.items)) m) w.to_b.items w.to_a.items c.call-in-B.ensures.entered (goes_begun m w.to_b.items w.to_a.items (called c.args.root c.args.oid.now c.args.face.now c.args.function (map plain_of c.args.args.items)) (record { given = subst (λ (vs : List Value). AllByRecursion IsSpellable (map plain_of vs)) c.as_slice.ensures.value c.arguments_are_spellable.ensures; none_in = refl; none_out = refl }) c.call-in-B.result) in
    let calls = calls_b w.a w.b w.to_a.items w.to_b.items c.self.invariant c.args.self.now c.self.view_is c.args.side c.in-B.is m c.mark-in-B.ensures e w.to_b.items w.to_a.items goes in
    calls.grows

pub invariant_of-self-in-B : goal.invariant_of-self-in-B
invariant_of-self-in-B c =
    let w = c.self.inside in
    let m = c.mark-in-B.new.end in
    let e = c.call-in-B.new.self in
    let goes = went m w.to_b.items w.to_a.items e (begun_by c.call-in-B.result (called c.args.root c.args.oid.now c.args.face.now c.args.function (map plain_of c.args.args.items)) m) w.to_b.items w.to_a.items c.call-in-B.ensures.entered (goes_begun m w.to_b.items w.to_a.items (called c.args.root c.args.oid.now c.args.face.now c.args.function (map plain_of c.args.args.items)) (record { given = subst (λ (vs : List Value). AllByRecursion IsSpellable (map plain_of vs)) c.as_slice.ensures.value c.arguments_are_spellable.ensures; none_in = refl; none_out = refl }) c.call-in-B.result) in
    world_b w.a w.b w.to_a.items w.to_b.items c.self.invariant c.args.self.now c.self.view_is c.args.side c.in-B.is m c.mark-in-B.ensures e w.to_b.items w.to_a.items goes
