use Rattle.std.proofs.Common.{arith}
use Rattle.uno_model.specs.Values.{refs_in}
use Rattle.uno_values.specs.Values.{plains_of}
use Rattle.bridge_model.specs.References.{loses_all}
use Rattle.bridge_tables.specs.EndTables.{on_tables}
use Rattle.bridge_tables.proofs.ReferringLemmas.{value_losing, values_lost}
use Rattle.bridge_tables.proofs.tables.Tables.+losing.Goals as goal

pub lose_each-loop-value-preserved : goal.lose_each-loop-value-preserved
lose_each-loop-value-preserved t c =
    value_losing c.args.holder c.args.values.now c.loop-value.value-index c.value-item.result (on_tables (loses_all c.args.holder (refs_in (plains_of c.args.values.now))) c.args.self.now) c.loop-value.self
    c.lose_value.new.self c.loop-value-test.true c.value-item.is c.lose_value.ensures c.loop-value.invariant

pub lose_each-returns : goal.lose_each-returns
lose_each-returns t c =
    values_lost c.args.holder c.args.values.now c.loop-value.value-index (on_tables (loses_all c.args.holder (refs_in (plains_of c.args.values.now))) c.args.self.now) c.loop-value.self
    (omega (arith, c.loop-value-test.false)) c.loop-value.invariant
