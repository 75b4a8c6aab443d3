use Rattle.std.proofs.Common.{arith}
use Rattle.uno_model.specs.Values.{refs_in}
use Rattle.uno_values.specs.Values.{plains_of}
use Rattle.bridge_model.specs.Receiving.{refs_refusal}
use Rattle.bridge_setting.specs.Settings.{setting_of}
use Rattle.bridge_state.proofs.ValueRefsLemmas.{value_fine, value_refused, all_fine}
use Rattle.bridge_state.proofs.refusing.+refusal.Goals as goal

pub each_refusal-returns-in-Some : goal.each_refusal-returns-in-Some
each_refusal-returns-in-Some t c =
    value_refused (setting_of c.args.setting.now) c.args.tables.now.tables c.args.values.now c.loop-value.value-index c.value-item.result c.value_refusal.result
    (refs_refusal (setting_of c.args.setting.now) c.args.tables.now.tables (refs_in (plains_of c.args.values.now))) c.in-Some.why c.loop-value-test.true c.value-item.is c.value_refusal.ensures c.in-Some.is c.loop-value.invariant

pub each_refusal-loop-value-preserved : goal.each_refusal-loop-value-preserved
each_refusal-loop-value-preserved t c =
    value_fine (setting_of c.args.setting.now) c.args.tables.now.tables c.args.values.now c.loop-value.value-index c.value-item.result c.value_refusal.result
    (refs_refusal (setting_of c.args.setting.now) c.args.tables.now.tables (refs_in (plains_of c.args.values.now))) c.loop-value-test.true c.value-item.is c.value_refusal.ensures c.in_default.is c.loop-value.invariant

pub each_refusal-returns : goal.each_refusal-returns
each_refusal-returns t c =
    all_fine (setting_of c.args.setting.now) c.args.tables.now.tables c.args.values.now c.loop-value.value-index
    (refs_refusal (setting_of c.args.setting.now) c.args.tables.now.tables (refs_in (plains_of c.args.values.now))) (omega (arith, c.loop-value-test.false)) c.loop-value.invariant
