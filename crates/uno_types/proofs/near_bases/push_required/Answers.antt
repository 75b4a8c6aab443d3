use Rattle.uno_types.proofs.NearLemmas.{required_more}
use Rattle.uno_types.proofs.near_bases.push_required.Goals as goal

pub loop-base-preserved : goal.loop-base-preserved
loop-base-preserved c =
    required_more _ _ _ c.args.bases.now c.loop-base.base-index c.base-item.result c.loop-base.invariant c.if-not-push_unless_optional.ensures c.loop-base-test.true
    c.base-item.is
