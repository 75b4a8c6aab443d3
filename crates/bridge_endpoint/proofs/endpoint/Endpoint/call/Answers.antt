use Rattle.std.proofs.Common.{◌≡◌, ap, sym, ◌∙◌, true, false, map, arith}
use Rattle.bridge_model.specs.Answers as answers
use Rattle.bridge_model.specs.Answers.{begun}
use Rattle.bridge_model.specs.Entries.{called}
use Rattle.bridge_model.specs.Roots.{holds_pair}
use Rattle.bridge_model.specs.Sides.{stands}
use Rattle.bridge_model.specs.Steps.{has_entries, may, may_begin, may_give}
use Rattle.uno_values.specs.Values.{plain_of}
use Rattle.bridge_laws.specs.Room.{brought}
use Rattle.bridge_setting.specs.Settings.{setting_of}
use Rattle.bridge_laws.specs.Giving.{MayGive}
use Rattle.bridge_endpoint.specs.Answering.{begun_told}
use Rattle.bridge_endpoint.proofs.BeginLemmas.{begins, not_held_told, refused_told}
use Rattle.bridge_endpoint.proofs.BegunLemmas.{begun_answer}
use Rattle.bridge_endpoint.proofs.EndLemmas.{stands_more}
use Rattle.bridge_endpoint.proofs.EntryLemmas.{from_now, lost_by, lost_kept, lost_room, to_now}
use Rattle.bridge_endpoint.proofs.MakingLemmas.{made_kept, may_call, call_not_given, call_not_held}
use Rattle.bridge_endpoint.proofs.endpoint.Endpoint.call.Goals as goal

pub returns-in-Some-clause-answer : goal.returns-in-Some-clause-answer
returns-in-Some-clause-answer c some = ap begun_told c.begun.ensures ∙ refused_told c.in-Some.refused c.args.self.now c.refused.new.self (called c.args.root c.args.oid.now c.args.face.now c.args.function (map plain_of c.args.args.items)) c.in-Some.ensures.refused

pub returns-then-not-root_holds-clause-answer : goal.returns-then-not-root_holds-clause-answer
returns-then-not-root_holds-clause-answer c some =
    let g = setting_of c.self.inside.setting in
    let s = c.self.inside.state.side in
    let is = c.self.view_is ∙ c.in_default.ensures.kept in
    let up : stands s ≡ true = from_now (λ h z. stands z ≡ true) c.self.invariant is c.in_default.ensures.stands in
    let few_there : has_entries s ≡ false = from_now (λ h z. has_entries z ≡ false) c.self.invariant is c.in_default.ensures.within in
    let idle : may_begin g c.args.root s ≡ true = from_now (λ h z. may_begin h c.args.root z ≡ true) c.self.invariant is c.requires.idle in
    sym (to_now (λ h z. begun h z (called c.args.root c.args.oid.now c.args.face.now c.args.function (map plain_of c.args.args.items)) ≡ answers.not_held) c.self.invariant is (not_held_told g s (called c.args.root c.args.oid.now c.args.face.now c.args.function (map plain_of c.args.args.items)) up few_there (call_not_held g s up few_there c.args.root c.args.oid.now c.args.face.now c.args.function (map plain_of c.args.args.items) idle (sym c.root_holds.ensures ∙ c.if-not-root_holds.true))))

pub returns-then-not-may_give-clause-answer : goal.returns-then-not-may_give-clause-answer
returns-then-not-may_give-clause-answer c some =
    let g = setting_of c.self.inside.setting in
    let s = c.self.inside.state.side in
    let is = c.self.view_is ∙ c.in_default.ensures.kept in
    let up : stands s ≡ true = from_now (λ h z. stands z ≡ true) c.self.invariant is c.in_default.ensures.stands in
    let few_there : has_entries s ≡ false = from_now (λ h z. has_entries z ≡ false) c.self.invariant is c.in_default.ensures.within in
    let idle : may_begin g c.args.root s ≡ true = from_now (λ h z. may_begin h c.args.root z ≡ true) c.self.invariant is c.requires.idle in
    let holds : holds_pair c.args.root c.args.oid.now c.args.face.now s.tables ≡ true = sym c.root_holds.ensures ∙ c.if-not-root_holds.false in
    let given : may_give g c.args.root (map plain_of c.args.args.items) s ≡ false = ap (λ xs. may_give g c.args.root (map plain_of xs) s) (sym c.deref.ensures.value) ∙ sym c.may_give.ensures ∙ c.if-not-may_give.true in
    sym (to_now (λ h z. begun h z (called c.args.root c.args.oid.now c.args.face.now c.args.function (map plain_of c.args.args.items)) ≡ answers.not_held) c.self.invariant is (not_held_told g s (called c.args.root c.args.oid.now c.args.face.now c.args.function (map plain_of c.args.args.items)) up few_there (call_not_given g s up few_there c.args.root c.args.oid.now c.args.face.now c.args.function (map plain_of c.args.args.items) idle holds given)))

pub call_standing-requires-clause-may : goal.call_standing-requires-clause-may
call_standing-requires-clause-may c =
    let s = c.self.inside.state.side in
    let is = c.self.view_is ∙ c.in_default.ensures.kept in
    begins c.self.invariant (from_now (λ h z. stands z ≡ true) c.self.invariant is c.in_default.ensures.stands) c.args.root (from_now (λ h z. may_begin h c.args.root z ≡ true) c.self.invariant is c.requires.idle)

pub invariant_of-self : goal.invariant_of-self
unfolding brought
invariant_of-self c =
    let g = setting_of c.self.inside.setting in
    let s = c.self.inside.state.side in
    let x = called c.args.root c.args.oid.now c.args.face.now c.args.function (map plain_of c.args.args.items) in
    let is = c.self.view_is ∙ c.in_default.ensures.kept in
    let up : stands s ≡ true = from_now (λ h z. stands z ≡ true) c.self.invariant is c.in_default.ensures.stands in
    let few_there : has_entries s ≡ false = from_now (λ h z. has_entries z ≡ false) c.self.invariant is c.in_default.ensures.within in
    let idle : may_begin g c.args.root s ≡ true = from_now (λ h z. may_begin h c.args.root z ≡ true) c.self.invariant is c.requires.idle in
    let holds : holds_pair c.args.root c.args.oid.now c.args.face.now s.tables ≡ true = sym c.root_holds.ensures ∙ c.if-not-root_holds.false in
    let given : may_give g c.args.root (map plain_of c.args.args.items) s ≡ true = ap (λ xs. may_give g c.args.root (map plain_of xs) s) (sym c.deref.ensures.value) ∙ sym c.may_give.ensures ∙ c.if-not-may_give.false in
    let fine : may g s x ≡ true = may_call g s up few_there c.args.root c.args.oid.now c.args.face.now c.args.function (map plain_of c.args.args.items) idle holds given in
    made_kept c.self.invariant x fine (from_now (λ h z. MayGive h (called c.args.root c.args.oid.now c.args.face.now c.args.function (map plain_of c.args.args.items))) c.self.invariant is c.requires.gives) c.call_standing.new.state c.call_standing.new.journal c.in-Ok.ensures.done 1 (omega arith) c.in-Ok.ensures.entered
    (c.in-Ok.ensures.within c.self.invariant.within)

pub run_out-requires-clause-room : goal.run_out-requires-clause-room
run_out-requires-clause-room c =
    let g = setting_of c.self.inside.setting in
    let s = c.self.inside.state.side in
    let x = called c.args.root c.args.oid.now c.args.face.now c.args.function (map plain_of c.args.args.items) in
    let is = c.self.view_is ∙ c.in_default.ensures.kept in
    let up : stands s ≡ true = from_now (λ h z. stands z ≡ true) c.self.invariant is c.in_default.ensures.stands in
    let lost = lost_by c.self.invariant up c.call_standing.new.state c.call_standing.new.journal c.in-Err.ensures.lost c.in-Err.ensures.names c.in-Err.ensures.nothing c.in-Err.ensures.least c.in-Err.ensures.within in
    lost_room c.self.invariant lost (stands_more s.cause up)

pub invariant_of-self-in-Err : goal.invariant_of-self-in-Err
invariant_of-self-in-Err c =
    let g = setting_of c.self.inside.setting in
    let s = c.self.inside.state.side in
    let x = called c.args.root c.args.oid.now c.args.face.now c.args.function (map plain_of c.args.args.items) in
    let is = c.self.view_is ∙ c.in_default.ensures.kept in
    let up : stands s ≡ true = from_now (λ h z. stands z ≡ true) c.self.invariant is c.in_default.ensures.stands in
    let lost = lost_by c.self.invariant up c.call_standing.new.state c.call_standing.new.journal c.in-Err.ensures.lost c.in-Err.ensures.names c.in-Err.ensures.nothing c.in-Err.ensures.least c.in-Err.ensures.within in
    lost_kept c.self.invariant lost (stands_more s.cause up) c.run_out.new.state c.run_out.new.journal c.run_out.ensures.ended c.run_out.ensures.entered

pub returns-in-Ok-clause-answer : goal.returns-in-Ok-clause-answer
returns-in-Ok-clause-answer c some =
    let g = setting_of c.self.inside.setting in
    let s = c.self.inside.state.side in
    let x = called c.args.root c.args.oid.now c.args.face.now c.args.function (map plain_of c.args.args.items) in
    let is = c.self.view_is ∙ c.in_default.ensures.kept in
    let up : stands s ≡ true = from_now (λ h z. stands z ≡ true) c.self.invariant is c.in_default.ensures.stands in
    let few_there : has_entries s ≡ false = from_now (λ h z. has_entries z ≡ false) c.self.invariant is c.in_default.ensures.within in
    let idle : may_begin g c.args.root s ≡ true = from_now (λ h z. may_begin h c.args.root z ≡ true) c.self.invariant is c.requires.idle in
    let holds : holds_pair c.args.root c.args.oid.now c.args.face.now s.tables ≡ true = sym c.root_holds.ensures ∙ c.if-not-root_holds.false in
    let given : may_give g c.args.root (map plain_of c.args.args.items) s ≡ true = ap (λ xs. may_give g c.args.root (map plain_of xs) s) (sym c.deref.ensures.value) ∙ sym c.may_give.ensures ∙ c.if-not-may_give.false in
    let fine : may g s x ≡ true = may_call g s up few_there c.args.root c.args.oid.now c.args.face.now c.args.function (map plain_of c.args.args.items) idle holds given in
    begun_answer c.self.invariant is x c.call_standing.new.state c.call_standing.new.journal 1 c.in-Ok.ensures.done c.in-Ok.ensures.entered c.root_state.result c.root_state.ensures c.started.result c.started.ensures up few_there fine
