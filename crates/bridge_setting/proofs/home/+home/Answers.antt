use Rattle.std.proofs.Common.{map, ◌∙◌, arith}
use Rattle.bridge_setting.specs.Settings.{setting_of}
use Rattle.uno_values.specs.Values.{plain_of}
use Rattle.bridge_setting.proofs.HomeLemmas.{one_more, all_so_far, parts_home}
use Rattle.bridge_setting.proofs.home.+home.Goals as goal

pub home_all-loop-place-preserved : goal.home_all-loop-place-preserved
home_all-loop-place-preserved t c =
    one_more (setting_of c.args.setting.now) c.loop-place.place c.len-place-end.result c.loop-place.values.items c.args.values.now.items c.index_mut.result.now c.home_value.new.value
    c.loop-place.invariant c.loop-place-test.true (c.len-place-end.ensures ∙ c.args.values.now.ok.0) c.index_mut.ensures.value c.home_value.ensures

pub home_all-returns-clause-each : goal.home_all-returns-clause-each
home_all-returns-clause-each t c =
    all_so_far (setting_of c.args.setting.now) c.loop-place.place c.len-place-end.result c.loop-place.values.items c.args.values.now.items c.loop-place.invariant
    (omega (arith, c.loop-place-test.false)) (c.len-place-end.ensures ∙ c.args.values.now.ok.0)

pub home_all-returns-clause-all : goal.home_all-returns-clause-all
home_all-returns-clause-all t c =
    parts_home (setting_of c.args.setting.now) c.loop-place.values.items (map plain_of c.args.values.now.items)
    (all_so_far (setting_of c.args.setting.now) c.loop-place.place c.len-place-end.result c.loop-place.values.items c.args.values.now.items c.loop-place.invariant
    (omega (arith, c.loop-place-test.false)) (c.len-place-end.ensures ∙ c.args.values.now.ok.0))
