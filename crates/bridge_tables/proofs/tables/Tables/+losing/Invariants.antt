use Rattle.std.proofs.Common.{◌≡◌, drop}
use Rattle.uno_model.specs.Values.{refs_in}
use Rattle.uno_values.specs.Values.{plains_of}
use Rattle.bridge_model.specs.References.{loses_all}
use Rattle.bridge_tables.specs.EndTables.{on_tables}
use Rattle.bridge_tables.proofs.tables.Tables.+losing.Given as goal

abbrev pub invariant-lose_each-loop-value : goal.invariant-lose_each-loop-value
invariant-lose_each-loop-value l =
    on_tables (loses_all l.holder (refs_in (plains_of (drop l.value-index l.values)))) l.self ≡ on_tables (loses_all l.holder (refs_in (plains_of l.values))) l.fn.self
