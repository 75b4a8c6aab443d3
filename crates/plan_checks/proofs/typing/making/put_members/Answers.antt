use Rattle.plan_types.specs.Expressions.{expression_of}
use Rattle.plan_checks.proofs.MakingLemmas.{members_put}
use Rattle.plan_checks.proofs.typing.making.put_members.Goals as goal

pub returns : goal.returns
returns c = members_put expression_of c.args.made.now.items c.take_last.new.made.items _ c.in_ok-all.all.items _ _ _ c.in_ok-all.ensures.all c.in_ok-all.ensures.rest c.in_ok-tuple.ensures c.in_ok-push.ensures.items
