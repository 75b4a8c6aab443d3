use Rattle.std.proofs.Common.{◌≡◌, drop, true}
use Rattle.uno_model.specs.Values.{refs_in}
use Rattle.uno_values.specs.Values.{plains_of}
use Rattle.bridge_model.specs.References.{lets_go_all}
use Rattle.bridge_setting.specs.Settings.{setting_of}
use Rattle.bridge_tables.specs.EndTables.{IsOf, on_tables}
use Rattle.bridge_tables.proofs.tables.Tables.+letting.Given as goal

abbrev pub invariant-let_each_go-loop-value : goal.invariant-let_each_go-loop-value
invariant-let_each_go-loop-value l =
    (on_tables (lets_go_all (setting_of l.setting) l.holder (refs_in (plains_of (drop l.value-index l.values)))) l.self ≡ on_tables (lets_go_all (setting_of l.setting) l.holder (refs_in (plains_of l.values))) l.fn.self)
    × IsOf (setting_of l.setting) l.self × (l.self.stands ≡ true)
