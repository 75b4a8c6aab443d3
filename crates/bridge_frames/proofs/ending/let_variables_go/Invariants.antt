use Rattle.std.proofs.Common.{◌≡◌, drop, true}
use Rattle.bridge_model.specs.References.{lets_go_all}
use Rattle.bridge_setting.specs.Settings.{setting_of}
use Rattle.bridge_tables.specs.EndTables.{IsOf, on_tables}
use Rattle.plan_model.specs.Holdings.{refs_under}
use Rattle.plan_types.specs.Frames.{variables_of}
use Rattle.bridge_frames.proofs.ending.let_variables_go.Given as goal

abbrev pub invariant-loop-variable : goal.invariant-loop-variable
invariant-loop-variable l =
    (on_tables (lets_go_all (setting_of l.setting) l.holder (refs_under (variables_of (drop l.variable-index l.variables)))) l.tables
    ≡ on_tables (lets_go_all (setting_of l.setting) l.holder (refs_under (variables_of l.variables))) l.fn.tables)
    × IsOf (setting_of l.setting) l.tables × (l.tables.stands ≡ true)
