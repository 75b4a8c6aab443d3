use Rattle.std.proofs.Common.{ap, ◌∙◌, map}
use Rattle.uno_values.specs.Values.{plain_of}
use Rattle.bridge_model.specs.References.{loses_all}
use Rattle.bridge_tables.specs.EndTables.{on_tables}
use Rattle.bridge_tables.proofs.ReferringLemmas.{refs_flat}
use Rattle.bridge_tables.proofs.tables.Tables.lose_values.Goals as goal

pub returns : goal.returns
returns c = c.lose_each.ensures ∙ ap (λ rs. on_tables (loses_all c.args.holder rs) c.args.self.now) (refs_flat (map plain_of c.args.values.now))
