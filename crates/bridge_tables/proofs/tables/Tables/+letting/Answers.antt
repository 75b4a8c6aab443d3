use Rattle.std.proofs.Common.{ap, arith, ◌∙◌, subst, sym}
use Rattle.uno_model.specs.Values.{refs_in}
use Rattle.uno_values.specs.Values.{plains_of}
use Rattle.bridge_model.specs.References.{lets_go_all}
use Rattle.bridge_setting.specs.Settings.{setting_of}
use Rattle.bridge_tables.specs.EndTables.{IsOf, on_tables}
use Rattle.bridge_tables.proofs.ReferringLemmas.{value_going, values_gone}
use Rattle.bridge_tables.proofs.tables.Tables.+letting.Goals as goal

pub let_each_go-loop-value-preserved : goal.let_each_go-loop-value-preserved
let_each_go-loop-value-preserved t c = (
  value_going (setting_of c.args.setting.now) c.args.holder c.args.values.now c.loop-value.value-index c.value-item.result
      (on_tables (lets_go_all (setting_of c.args.setting.now) c.args.holder (refs_in (plains_of c.args.values.now))) c.args.self.now) c.loop-value.self c.let_value_go.new.self c.loop-value-test.true c.value-item.is
      c.let_value_go.ensures c.loop-value.invariant.0,
  subst (IsOf (setting_of c.args.setting.now)) (sym c.let_value_go.ensures)
      (record { prefix = c.loop-value.invariant.1.prefix; first = c.loop-value.invariant.1.first; release = c.loop-value.invariant.1.release }),
  ap (λ e. e.stands) c.let_value_go.ensures ∙ c.loop-value.invariant.2,
)

pub let_each_go-returns : goal.let_each_go-returns
let_each_go-returns t c =
    values_gone (setting_of c.args.setting.now) c.args.holder c.args.values.now c.loop-value.value-index
    (on_tables (lets_go_all (setting_of c.args.setting.now) c.args.holder (refs_in (plains_of c.args.values.now))) c.args.self.now) c.loop-value.self (omega (arith, c.loop-value-test.false)) c.loop-value.invariant.0
