use Rattle.std.proofs.Common.{◌≡◌, map, drop}
use Rattle.uno_values.specs.References.{ref_of}
use Rattle.bridge_model.specs.References.{lets_go_all}
use Rattle.bridge_setting.specs.Settings.{setting_of}
use Rattle.bridge_tables.specs.EndTables.{on_tables}
use Rattle.bridge_tables.proofs.tables.Tables.let_go_all.Given as goal

abbrev pub invariant-loop-reference : goal.invariant-loop-reference
invariant-loop-reference l =
    (on_tables (lets_go_all (setting_of l.setting) l.holder (map ref_of (drop l.reference-index l.references))) l.self ≡ on_tables (lets_go_all (setting_of l.setting) l.holder (map ref_of l.references)) l.fn.self)
    × (l.self.stands ≡ l.fn.self.stands)
