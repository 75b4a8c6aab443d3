use Rattle.std.proofs.Common.{◌≡◌, map, take}
use Rattle.uno_values.specs.References.{ref_of}
use Rattle.bridge_model.specs.References.{takes_all}
use Rattle.bridge_setting.specs.Settings.{setting_of}
use Rattle.bridge_tables.specs.EndTables.{on_tables}
use Rattle.bridge_tables.proofs.tables.Tables.take_all.Given as goal

abbrev pub invariant-loop-place : goal.invariant-loop-place
invariant-loop-place l = l.self ≡ on_tables (takes_all (setting_of l.setting) l.holder (map ref_of (take l.place l.references))) l.fn.self
