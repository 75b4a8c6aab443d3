use Rattle.std.proofs.Common.{sym, ◌∙◌}
use Rattle.behaviour.proofs.LimitLemmas.{flat_more, deep_here, none_deep}
use Rattle.behaviour.proofs.limits.has_deep.Goals as goal

pub returns-then-is_deep : goal.returns-then-is_deep
returns-then-is_deep c =
    deep_here c.args.values.now c.loop-value.value-index c.value-item.result c.depth_of.result _ c.loop-value-test.true c.value-item.is c.depth_of.ensures (sym c.is_deep.ensures ∙ c.if-is_deep.true) c.loop-value.invariant

pub loop-value-preserved : goal.loop-value-preserved
loop-value-preserved c =
    flat_more c.args.values.now c.loop-value.value-index c.value-item.result c.depth_of.result _ c.loop-value-test.true c.value-item.is c.depth_of.ensures (sym c.is_deep.ensures ∙ c.if-is_deep.false) c.loop-value.invariant

pub returns : goal.returns
returns c = none_deep c.args.values.now c.loop-value.value-index _ c.loop-value-test.false c.loop-value.invariant
