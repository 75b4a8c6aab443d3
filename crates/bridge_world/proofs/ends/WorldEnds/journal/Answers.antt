use Rattle.std.proofs.Common.{◌∙◌, List, subst}
use Rattle.bridge_endpoint.specs.Journals.{IsSetUp, setting_at, told_at}
use Rattle.bridge_model.specs.Entries.{Entry}
use Rattle.bridge_model.specs.Histories.{Leads, Told}
use Rattle.bridge_model.specs.Settings.{Setting}
use Rattle.bridge_laws.specs.Giving.{RootsGive}
use Rattle.uno_entities.specs.Tag.{IsTag}
use Rattle.uno_model.specs.BuiltIn.{HasBuiltIn}
use Rattle.bridge_world.specs.Joined.{end_at}
use Rattle.bridge_world.proofs.ends.WorldEnds.journal.Goals as goal

pub returns-clause-entries : goal.returns-clause-entries
returns-clause-entries c = c.journal.ensures.entries ∙ c.end_of.ensures.entries

pub returns-clause-leads : goal.returns-clause-leads
returns-clause-leads c =
    subst (λ (g : Setting). Leads g (end_at c.args.self.now c.args.side).entries (told_at (end_at c.args.self.now c.args.side))) c.end_of.ensures.setting
    (subst (λ (es : List Entry). Leads (setting_at c.end_of.result.now) es (told_at (end_at c.args.self.now c.args.side))) c.end_of.ensures.entries (subst (λ (t : Told). Leads (setting_at c.end_of.result.now) c.end_of.result.now.entries t) c.end_of.ensures.told c.journal.ensures.leads))

pub returns-clause-gives : goal.returns-clause-gives
returns-clause-gives c =
    subst (λ (g : Setting). RootsGive g (end_at c.args.self.now c.args.side).entries) c.end_of.ensures.setting (subst (λ (es : List Entry). RootsGive (setting_at c.end_of.result.now) es) c.end_of.ensures.entries c.journal.ensures.gives)

pub returns-clause-set_up : goal.returns-clause-set_up
returns-clause-set_up c = subst IsSetUp c.end_of.ensures.setting c.journal.ensures.set_up

pub returns-clause-built_in : goal.returns-clause-built_in
returns-clause-built_in c = subst (λ (g : Setting). HasBuiltIn g.registry) c.end_of.ensures.setting c.journal.ensures.built_in

pub returns-clause-tag : goal.returns-clause-tag
returns-clause-tag c = subst (λ (g : Setting). IsTag g.tag) c.end_of.ensures.setting c.journal.ensures.tag
