use Rattle.std.proofs.Common.{ap, ◌∙◌, map}
use Rattle.uno_values.specs.Values.{plain_of}
use Rattle.bridge_model.specs.References.{lets_go_all}
use Rattle.bridge_setting.specs.Settings.{setting_of}
use Rattle.bridge_tables.specs.EndTables.{on_tables}
use Rattle.bridge_tables.proofs.ReferringLemmas.{refs_flat}
use Rattle.bridge_tables.proofs.tables.Tables.let_values_go.Goals as goal

pub returns : goal.returns
returns c = c.let_each_go.ensures ∙ ap (λ rs. on_tables (lets_go_all (setting_of c.args.setting.now) c.args.holder rs) c.args.self.now) (refs_flat (map plain_of c.args.values.now))
