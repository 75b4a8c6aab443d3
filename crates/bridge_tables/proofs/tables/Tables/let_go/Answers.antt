use Rattle.std.proofs.Common.{ap, sym, ◌∙◌}
use Rattle.uno_values.specs.References.{ref_of}
use Rattle.bridge_model.specs.References.{lets_go}
use Rattle.bridge_setting.specs.Settings.{setting_of}
use Rattle.bridge_tables.specs.EndTables.{on_tables, with_tables}
use Rattle.bridge_tables.proofs.LettingLemmas.{own_let_go}
use Rattle.bridge_tables.proofs.tables.Tables.let_go.Goals as goal

pub returns-in-Local : goal.returns-in-Local
returns-in-Local c =
    c.lose_pair.ensures
    ∙ ap (λ t. with_tables t c.args.self.now) (sym (own_let_go (setting_of c.args.setting.now) c.args.holder c.in-Local.oid c.in-Local.face c.args.self.now.tables))
    ∙ ap (λ r. on_tables (lets_go (setting_of c.args.setting.now) c.args.holder (ref_of r)) c.args.self.now) (sym c.in-Local.is)
