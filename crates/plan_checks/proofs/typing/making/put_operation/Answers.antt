use Rattle.plan_types.specs.Expressions.{expression_of}
use Rattle.plan_checks.proofs.MakingLemmas.{operation_put}
use Rattle.plan_checks.proofs.typing.making.put_operation.Goals as goal

pub returns : goal.returns
returns c = operation_put expression_of _ _ _ _ _ _ _ _ c.in-Some.ensures.items c.in-Some-pop.ensures.items c.in_ok-whole.ensures c.in_ok-push.ensures.items
