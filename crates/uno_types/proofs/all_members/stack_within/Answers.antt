use Rattle.std.proofs.Common.{rules, arith}
use Rattle.uno_types.proofs.LevelLemmas.{stack_begins, stack_on, stack_ends, stack_whole}
use Rattle.uno_types.proofs.all_members.stack_within.Goals as goal

pub loop-left-init : goal.loop-left-init
loop-left-init c = (search rules, stack_begins _ _ c.new-stack.ensures.items)

pub returns-in_default : goal.returns-in_default
returns-in_default c = stack_ends _ _ _ _ _ _ _ c.loop-left.invariant.1 c.loop-left-test.true c.level.ensures c.in_default.is c.in_ok-push.ensures.items

pub loop-left-preserved : goal.loop-left-preserved
loop-left-preserved c =
    (search rules, stack_on _ _ _ _ _ _ _ _ c.loop-left.invariant.1 c.loop-left-test.true c.level.ensures c.in-Some.is c.in_ok-push.ensures.items)

pub returns : goal.returns
returns c = stack_whole _ _ _ _ _ c.loop-left.invariant.1 (omega (arith, c.loop-left-test.false))
