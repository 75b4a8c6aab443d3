use Rattle.std.proofs.Common.{◌≡◌, ap, ◌∙◌, true, false, arith}
use Rattle.bridge_model.specs.Entries.{asked}
use Rattle.bridge_model.specs.Sides.{stands}
use Rattle.bridge_model.specs.Steps.{has_entries, may, may_begin}
use Rattle.bridge_laws.specs.Room.{brought}
use Rattle.bridge_setting.specs.Settings.{setting_of}
use Rattle.bridge_laws.specs.Giving.{MayGive}
use Rattle.bridge_endpoint.specs.Answering.{begun_told}
use Rattle.bridge_endpoint.proofs.BeginLemmas.{begins, refused_told}
use Rattle.bridge_endpoint.proofs.BegunLemmas.{begun_answer}
use Rattle.bridge_endpoint.proofs.EndLemmas.{stands_more}
use Rattle.bridge_endpoint.proofs.EntryLemmas.{from_now, lost_by, lost_kept, lost_room}
use Rattle.bridge_endpoint.proofs.MakingLemmas.{made_kept, may_ask}
use Rattle.bridge_endpoint.proofs.endpoint.Endpoint.ask.Goals as goal

pub returns-in-Some-clause-answer : goal.returns-in-Some-clause-answer
returns-in-Some-clause-answer c some = ap begun_told c.begun.ensures ∙ refused_told c.in-Some.refused c.args.self.now c.refused.new.self (asked c.args.root c.args.name.now c.args.wanted.now) c.in-Some.ensures.refused

pub ask_standing-requires-clause-may : goal.ask_standing-requires-clause-may
ask_standing-requires-clause-may c =
    let s = c.self.inside.state.side in
    let is = c.self.view_is ∙ c.in_default.ensures.kept in
    begins c.self.invariant (from_now (λ h z. stands z ≡ true) c.self.invariant is c.in_default.ensures.stands) c.args.root (from_now (λ h z. may_begin h c.args.root z ≡ true) c.self.invariant is c.requires.idle)

pub invariant_of-self : goal.invariant_of-self
unfolding brought
invariant_of-self c =
    let g = setting_of c.self.inside.setting in
    let s = c.self.inside.state.side in
    let x = asked c.args.root c.args.name.now c.args.wanted.now in
    let is = c.self.view_is ∙ c.in_default.ensures.kept in
    let up : stands s ≡ true = from_now (λ h z. stands z ≡ true) c.self.invariant is c.in_default.ensures.stands in
    let few_there : has_entries s ≡ false = from_now (λ h z. has_entries z ≡ false) c.self.invariant is c.in_default.ensures.within in
    let idle : may_begin g c.args.root s ≡ true = from_now (λ h z. may_begin h c.args.root z ≡ true) c.self.invariant is c.requires.idle in
    let fine : may g s x ≡ true = may_ask g s up few_there c.args.root c.args.name.now c.args.wanted.now idle in
    made_kept c.self.invariant x fine (from_now (λ h z. MayGive h (asked c.args.root c.args.name.now c.args.wanted.now)) c.self.invariant is c.requires.gives) c.ask_standing.new.state c.ask_standing.new.journal c.in-Ok.ensures.done 1 (omega arith) c.in-Ok.ensures.entered
    (c.in-Ok.ensures.within c.self.invariant.within)

pub run_out-requires-clause-room : goal.run_out-requires-clause-room
run_out-requires-clause-room c =
    let g = setting_of c.self.inside.setting in
    let s = c.self.inside.state.side in
    let x = asked c.args.root c.args.name.now c.args.wanted.now in
    let is = c.self.view_is ∙ c.in_default.ensures.kept in
    let up : stands s ≡ true = from_now (λ h z. stands z ≡ true) c.self.invariant is c.in_default.ensures.stands in
    let lost = lost_by c.self.invariant up c.ask_standing.new.state c.ask_standing.new.journal c.in-Err.ensures.lost c.in-Err.ensures.names c.in-Err.ensures.nothing c.in-Err.ensures.least c.in-Err.ensures.within in
    lost_room c.self.invariant lost (stands_more s.cause up)

pub invariant_of-self-in-Err : goal.invariant_of-self-in-Err
invariant_of-self-in-Err c =
    let g = setting_of c.self.inside.setting in
    let s = c.self.inside.state.side in
    let x = asked c.args.root c.args.name.now c.args.wanted.now in
    let is = c.self.view_is ∙ c.in_default.ensures.kept in
    let up : stands s ≡ true = from_now (λ h z. stands z ≡ true) c.self.invariant is c.in_default.ensures.stands in
    let lost = lost_by c.self.invariant up c.ask_standing.new.state c.ask_standing.new.journal c.in-Err.ensures.lost c.in-Err.ensures.names c.in-Err.ensures.nothing c.in-Err.ensures.least c.in-Err.ensures.within in
    lost_kept c.self.invariant lost (stands_more s.cause up) c.run_out.new.state c.run_out.new.journal c.run_out.ensures.ended c.run_out.ensures.entered

pub returns-in-Ok-clause-answer : goal.returns-in-Ok-clause-answer
returns-in-Ok-clause-answer c some =
    let g = setting_of c.self.inside.setting in
    let s = c.self.inside.state.side in
    let x = asked c.args.root c.args.name.now c.args.wanted.now in
    let is = c.self.view_is ∙ c.in_default.ensures.kept in
    let up : stands s ≡ true = from_now (λ h z. stands z ≡ true) c.self.invariant is c.in_default.ensures.stands in
    let few_there : has_entries s ≡ false = from_now (λ h z. has_entries z ≡ false) c.self.invariant is c.in_default.ensures.within in
    let idle : may_begin g c.args.root s ≡ true = from_now (λ h z. may_begin h c.args.root z ≡ true) c.self.invariant is c.requires.idle in
    let fine : may g s x ≡ true = may_ask g s up few_there c.args.root c.args.name.now c.args.wanted.now idle in
    begun_answer c.self.invariant is x c.ask_standing.new.state c.ask_standing.new.journal 1 c.in-Ok.ensures.done c.in-Ok.ensures.entered c.root_state.result c.root_state.ensures c.started.result c.started.ensures up few_there fine
