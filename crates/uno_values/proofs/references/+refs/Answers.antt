use Rattle.uno_values.proofs.Parts.{refs_more}
use Rattle.uno_values.proofs.references.+refs.Goals as goal

pub push_all-loop-value-preserved : goal.push_all-loop-value-preserved
push_all-loop-value-preserved t c =
    refs_more c.args.values.now c.loop-value.value-index c.value-item.result _ _ _ c.loop-value-test.true c.value-item.is c.in_ok-push_refs.ensures c.loop-value.invariant
