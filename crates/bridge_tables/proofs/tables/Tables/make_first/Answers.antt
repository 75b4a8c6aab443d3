use Rattle.std.proofs.Common.{sym, ◌∙◌}
use Rattle.plan_model.specs.Plans.{manager}
use Rattle.bridge_setting.specs.Settings.{setting_of}
use Rattle.bridge_tables.proofs.MakingLemmas.{first_with, first_without}
use Rattle.bridge_tables.proofs.tables.Tables.make_first.Goals as goal

pub returns-in_ok-make_singletons : goal.returns-in_ok-make_singletons
unfolding manager
returns-in_ok-make_singletons c =
    first_with (setting_of c.args.setting.now) c.args.self.now c.make_exported.new.self c.make_default.new.self c.make_singletons.new.self (sym c.has_offers.ensures ∙ c.if-has_offers.true) c.in_ok-make_exported.ensures
    c.in_ok-make_default.ensures.made c.in_ok-make_singletons.ensures

pub returns-else-has_offers : goal.returns-else-has_offers
returns-else-has_offers c =
    first_without (setting_of c.args.setting.now) c.args.self.now c.make_exported.new.self (sym c.has_offers.ensures ∙ c.if-has_offers.false) c.in_ok-make_exported.ensures
