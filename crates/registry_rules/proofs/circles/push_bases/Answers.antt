use Rattle.entity_rules.proofs.GraphLemmas.{written_more, base_names_step}
use Rattle.registry_rules.proofs.circles.push_bases.Goals as goal

pub loop-base-preserved : goal.loop-base-preserved
loop-base-preserved c =
    written_more _ c.args.row.now.items _ _ _ _ _ c.loop-base.invariant c.in_ok-push_base_of.ensures
    (base_names_step c.args.bases.now c.loop-base.base-index c.base-item.result c.loop-base-test.true c.base-item.is)
