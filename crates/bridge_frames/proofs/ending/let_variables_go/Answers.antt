use Rattle.std.proofs.Common.{ap, arith, ◌∙◌}
use Rattle.bridge_model.specs.References.{lets_go_all}
use Rattle.bridge_setting.specs.Settings.{setting_of}
use Rattle.bridge_tables.specs.EndTables.{on_tables}
use Rattle.plan_model.specs.Holdings.{refs_under}
use Rattle.plan_types.specs.Frames.{variables_of}
use Rattle.uno_model.specs.Values.{refs}
use Rattle.uno_values.specs.Values.{plain_of}
use Rattle.bridge_frames.proofs.EndingLemmas.{variable_going, variables_gone}
use Rattle.bridge_frames.proofs.LastingLemmas.{of_after}
use Rattle.bridge_frames.proofs.ending.let_variables_go.Goals as goal

pub loop-variable-preserved : goal.loop-variable-preserved
loop-variable-preserved c = (
  variable_going (setting_of c.args.setting.now) c.args.holder c.args.variables.now c.loop-variable.variable-index c.variable-item.result
      (on_tables (lets_go_all (setting_of c.args.setting.now) c.args.holder (refs_under (variables_of c.args.variables.now))) c.args.tables.now) c.loop-variable.tables c.let_value_go.new.self c.loop-variable-test.true
      c.variable-item.is c.let_value_go.ensures c.loop-variable.invariant.0,
  of_after (setting_of c.args.setting.now) (lets_go_all (setting_of c.args.setting.now) c.args.holder (refs (plain_of c.variable-item.result.value)) c.loop-variable.tables.tables) c.loop-variable.tables c.let_value_go.new.self
      c.let_value_go.ensures c.loop-variable.invariant.1,
  ap (λ e. e.stands) c.let_value_go.ensures ∙ c.loop-variable.invariant.2,
)

pub returns : goal.returns
returns c =
    variables_gone (setting_of c.args.setting.now) c.args.holder c.args.variables.now c.loop-variable.variable-index
    (on_tables (lets_go_all (setting_of c.args.setting.now) c.args.holder (refs_under (variables_of c.args.variables.now))) c.args.tables.now) c.loop-variable.tables (omega (arith, c.loop-variable-test.false))
    c.loop-variable.invariant.0
