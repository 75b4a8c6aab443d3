use Rattle.plan_types.specs.Expressions.{expression_of}
use Rattle.plan_checks.proofs.MakingLemmas.{any_put}
use Rattle.plan_checks.proofs.typing.making.put_any.Goals as goal

pub returns : goal.returns
returns c = any_put expression_of _ _ _ _ _ _ c.in-Some.ensures.items c.in_ok-any.ensures c.in_ok-push.ensures.items
