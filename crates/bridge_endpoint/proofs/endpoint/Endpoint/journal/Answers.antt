use Rattle.std.proofs.Common.{subst}
use Rattle.bridge_model.specs.Histories.{Leads}
use Rattle.bridge_laws.specs.Giving.{RootsGive}
use Rattle.uno_entities.specs.Tag.{IsTag}
use Rattle.uno_model.specs.BuiltIn.{HasBuiltIn}
use Rattle.bridge_endpoint.proofs.KeptLaws.{leads_at}
use Rattle.bridge_endpoint.specs.Journals.{Endpoint, IsSetUp, setting_at, told_at}
use Rattle.bridge_endpoint.proofs.endpoint.Endpoint.journal.Goals as goal

pub returns-clause-leads : goal.returns-clause-leads
returns-clause-leads c =
    let s = c.self.inside in
    subst (λ (x : Endpoint). Leads (setting_at x) x.entries (told_at x)) c.self.view_is (leads_at s.setting s.setting.names.roots s.state s.journal c.self.invariant)

pub returns-clause-gives : goal.returns-clause-gives
returns-clause-gives c = subst (λ (x : Endpoint). RootsGive (setting_at x) x.entries) c.self.view_is c.self.invariant.gives

pub returns-clause-set_up : goal.returns-clause-set_up
returns-clause-set_up c = subst (λ (x : Endpoint). IsSetUp (setting_at x)) c.self.view_is c.self.invariant.set_up

pub returns-clause-built_in : goal.returns-clause-built_in
returns-clause-built_in c = subst (λ (x : Endpoint). HasBuiltIn (setting_at x).registry) c.self.view_is c.self.invariant.built_in

pub returns-clause-tag : goal.returns-clause-tag
returns-clause-tag c = subst (λ (x : Endpoint). IsTag (setting_at x).tag) c.self.view_is c.self.invariant.tag
