use Rattle.std.proofs.Common.{◌-◌, ◌^◌}
use Rattle.uno_values.proofs.Parts.{deeper}
use Rattle.uno_values.proofs.depth.+depth.Goals as goal

pub deepest-loop-value-preserved : goal.deepest-loop-value-preserved
deepest-loop-value-preserved t c =
    deeper (2 ^ 64 - 1) c.args.values.now c.loop-value.value-index c.value-item.result _ _ _ _ c.loop-value-test.true c.value-item.is c.depth.ensures c.max-deepest.ensures c.loop-value.invariant.1 c.loop-value.invariant.0
