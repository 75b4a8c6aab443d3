use Rattle.behaviour.proofs.EvaluationLemmas.{value_more, values_done}
use Rattle.behaviour.proofs.evaluation.+value.Goals as goal

pub values_of-loop-expression-preserved : goal.values_of-loop-expression-preserved
values_of-loop-expression-preserved t c =
    value_more _ c.args.expressions.now c.loop-expression.expression-index c.expression-item.result c.in-Ok.value c.in-Some.value _ _ _ c.loop-expression-test.true
    c.expression-item.is c.in-Ok.ensures c.in-Some.is c.in_default-push_value.ensures c.loop-expression.invariant

pub values_of-returns : goal.values_of-returns
values_of-returns t c = values_done _ c.args.expressions.now c.loop-expression.expression-index _ _ c.loop-expression-test.false c.loop-expression.invariant
