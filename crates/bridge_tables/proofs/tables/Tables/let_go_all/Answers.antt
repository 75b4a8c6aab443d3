use Rattle.std.proofs.Common.{ap, arith, ◌∙◌, map}
use Rattle.uno_values.specs.References.{ref_of}
use Rattle.bridge_model.specs.References.{lets_go_all}
use Rattle.bridge_setting.specs.Settings.{setting_of}
use Rattle.bridge_tables.specs.EndTables.{on_tables}
use Rattle.bridge_tables.proofs.ReferringLemmas.{going_next, going_done}
use Rattle.bridge_tables.proofs.tables.Tables.let_go_all.Goals as goal

pub loop-reference-preserved : goal.loop-reference-preserved
loop-reference-preserved c = (
  going_next ref_of (setting_of c.args.setting.now) c.args.holder c.args.references.now c.loop-reference.reference-index c.reference-item.result
      (on_tables (lets_go_all (setting_of c.args.setting.now) c.args.holder (map ref_of c.args.references.now)) c.args.self.now) c.loop-reference.self c.let_go.new.self c.loop-reference-test.true c.reference-item.is
      c.let_go.ensures c.loop-reference.invariant.0,
  ap (λ e. e.stands) c.let_go.ensures ∙ c.loop-reference.invariant.1,
)

pub returns : goal.returns
returns c =
    going_done ref_of (setting_of c.args.setting.now) c.args.holder c.args.references.now c.loop-reference.reference-index
    (on_tables (lets_go_all (setting_of c.args.setting.now) c.args.holder (map ref_of c.args.references.now)) c.args.self.now) c.loop-reference.self (omega (arith, c.loop-reference-test.false)) c.loop-reference.invariant.0
