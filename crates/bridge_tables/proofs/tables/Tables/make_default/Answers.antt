use Rattle.std.proofs.Common.{ap, ◌∙◌, map, refl}
use Rattle.uno_model.specs.Defaults.{default_of_kind}
use Rattle.bridge_model.specs.Objects.{makes_object}
use Rattle.bridge_setting.specs.Settings.{setting_of}
use Rattle.bridge_tables.specs.EndTables.{on_tables}
use Rattle.bridge_tables.proofs.CountLemmas.{on_ok}
use Rattle.bridge_tables.proofs.tables.Tables.make_default.Goals as goal

pub returns-clause-made : goal.returns-clause-made
returns-clause-made c =
    on_ok c.make.result
    (λ made.
    made
    ∙ ap (λ fs. on_tables (makes_object c.args.behaviour fs) c.args.self.now)
    (c.in_ok-fields.ensures ∙ ap (map (λ f. default_of_kind c.args.setting.now.registry f.kind)) (c.fields_of.ensures (setting_of c.args.setting.now) refl)))
    c.make.ensures.made
