use Rattle.plan_types.specs.Expressions.{expression_of}
use Rattle.plan_checks.proofs.MakingLemmas.{whole_put}
use Rattle.plan_checks.proofs.typing.making.put_whole.Goals as goal

pub returns : goal.returns
returns c = whole_put expression_of _ _ _ c.in_ok-push.ensures.items
