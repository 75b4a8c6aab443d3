use Rattle.uno_entities.proofs.SpreadLemmas.{spreads_then, required_step}
use Rattle.uno_entities.proofs.bases.mark_required.Goals as goal

pub loop-base-preserved : goal.loop-base-preserved
loop-base-preserved c =
    rw (required_step c.args.bases.now c.loop-base.base-index c.base-item.result c.loop-base-test.true c.base-item.is)
    (spreads_then _ _ _ _ _ _ _ _ _ c.loop-base.invariant c.in_ok-mark_unless_optional.ensures)
