use Rattle.std.proofs.Common.{◌≡◌, suc, ap, ◌∙◌, true, false, arith}
use Rattle.bridge_model.specs.Entries.{made}
use Rattle.bridge_model.specs.Settings.{own_oid}
use Rattle.bridge_model.specs.Sides.{stands}
use Rattle.bridge_model.specs.Steps.{has_entries, is_root, may}
use Rattle.bridge_laws.specs.Room.{brought}
use Rattle.bridge_setting.specs.Settings.{setting_of}
use Rattle.bridge_laws.specs.Giving.{MayGive}
use Rattle.bridge_endpoint.specs.Answering.{made_told}
use Rattle.bridge_endpoint.specs.Journals.{side_at}
use Rattle.bridge_endpoint.proofs.BeginLemmas.{made_is, refused_made_told}
use Rattle.bridge_endpoint.proofs.EndLemmas.{stands_more}
use Rattle.bridge_endpoint.proofs.EntryLemmas.{from_now, lost_same, lost_kept, lost_room, to_now}
use Rattle.bridge_endpoint.proofs.MakingLemmas.{made_kept, may_make}
use Rattle.bridge_endpoint.proofs.endpoint.Endpoint.make.Goals as goal

pub returns-in-Some-clause-answer : goal.returns-in-Some-clause-answer
returns-in-Some-clause-answer c some = ap made_told c.made.ensures ∙ refused_made_told c.in-Some.refused c.args.self.now c.refused.new.self c.in-Some.ensures.refused

pub invariant_of-self : goal.invariant_of-self
unfolding brought
invariant_of-self c =
    let g = setting_of c.self.inside.setting in
    let s = c.self.inside.state.side in
    let x = made c.args.root c.args.behaviour c.args.wanted.now in
    let is = c.self.view_is ∙ c.in_default.ensures.kept in
    let up : stands s ≡ true = from_now (λ h z. stands z ≡ true) c.self.invariant is c.in_default.ensures.stands in
    let few_there : has_entries s ≡ false = from_now (λ h z. has_entries z ≡ false) c.self.invariant is c.in_default.ensures.within in
    let of_plan : is_root g c.args.root ≡ true = from_now (λ h z. is_root h c.args.root ≡ true) c.self.invariant is c.requires.root in
    let fine : may g s x ≡ true = may_make g s up few_there c.args.root c.args.behaviour c.args.wanted.now of_plan in
    made_kept c.self.invariant x fine (from_now (λ h z. MayGive h (made c.args.root c.args.behaviour c.args.wanted.now)) c.self.invariant is c.requires.supports) c.make_standing.new.state
    c.make_standing.new.journal c.in-Ok.ensures.done 2 (omega arith) c.in-Ok.ensures.entered (c.in-Ok.ensures.within c.self.invariant.within)

pub run_out-requires-clause-room : goal.run_out-requires-clause-room
run_out-requires-clause-room c =
    let s = c.self.inside.state.side in
    let is = c.self.view_is ∙ c.in_default.ensures.kept in
    let up : stands s ≡ true = from_now (λ h z. stands z ≡ true) c.self.invariant is c.in_default.ensures.stands in
    let lost = lost_same c.self.invariant c.make_standing.new.state c.make_standing.new.journal c.in-Err.ensures.same c.in-Err.ensures.nothing c.in-Err.ensures.least c.in-Err.ensures.within in
    lost_room c.self.invariant lost (stands_more s.cause up)

pub invariant_of-self-in-Err : goal.invariant_of-self-in-Err
invariant_of-self-in-Err c =
    let s = c.self.inside.state.side in
    let is = c.self.view_is ∙ c.in_default.ensures.kept in
    let up : stands s ≡ true = from_now (λ h z. stands z ≡ true) c.self.invariant is c.in_default.ensures.stands in
    let lost = lost_same c.self.invariant c.make_standing.new.state c.make_standing.new.journal c.in-Err.ensures.same c.in-Err.ensures.nothing c.in-Err.ensures.least c.in-Err.ensures.within in
    lost_kept c.self.invariant lost (stands_more s.cause up) c.run_out.new.state c.run_out.new.journal c.run_out.ensures.ended c.run_out.ensures.entered

pub returns-in-Ok-clause-answer : goal.returns-in-Ok-clause-answer
returns-in-Ok-clause-answer c some = made_is (side_at c.args.self.now) c.in_default.ensures.stands c.in_default.ensures.within

pub returns-in-Ok-clause-identity : goal.returns-in-Ok-clause-identity
returns-in-Ok-clause-identity c =
    let is = c.self.view_is ∙ c.in_default.ensures.kept in
    to_now (λ h z. c.in-Ok.oid ≡ own_oid h (suc z.tables.objects_made)) c.self.invariant is c.in-Ok.ensures.identity
