use Rattle.behaviour.proofs.EvaluationLemmas.{byte_more, bytes_done}
use Rattle.behaviour.proofs.evaluation.bytes_in.Goals as goal

pub loop-value-preserved : goal.loop-value-preserved
loop-value-preserved c =
    byte_more c.args.values.now c.loop-value.value-index c.value-item.result c.byte_of.result _ _ _ c.loop-value-test.true c.value-item.is c.byte_of.ensures c.in_ok-push.ensures.items c.loop-value.invariant

pub returns : goal.returns
returns c = bytes_done c.args.values.now c.loop-value.value-index _ _ c.loop-value-test.false c.loop-value.invariant
