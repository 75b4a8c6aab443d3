use Rattle.std.specs.Prelude.{◌≡◌, map, drop}
use Rattle.bridge_model.specs.Objects.{makes_all}
use Rattle.bridge_setting.specs.Settings.{setting_of}
use Rattle.bridge_tables.specs.EndTables.{IsOf, on_tables}
use Rattle.bridge_tables.proofs.tables.Tables.make_exported.Given as goal

abbrev pub invariant-loop-place : goal.invariant-loop-place
invariant-loop-place l =
    (on_tables (makes_all (setting_of l.setting) (map (λ x. x.behaviour) (drop l.place l.setting.plan.exports.items))) l.self ≡ on_tables (makes_all (setting_of l.setting) (map (λ x. x.behaviour) l.setting.plan.exports.items)) l.fn.self)
    × IsOf (setting_of l.setting) l.self
