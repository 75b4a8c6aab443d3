use Rattle.std.proofs.Common.{rules, arith}
use Rattle.uno_types.proofs.MemberLemmas.{counted, counts_on, counted_at_end}
use Rattle.uno_types.proofs.members.count_within.Goals as goal

pub returns-in_default : goal.returns-in_default
returns-in_default c = counted _ _ _ _ _ _ _ c.loop-left.invariant.1 c.loop-left-test.true c.level.ensures c.in_default.is

pub loop-left-preserved : goal.loop-left-preserved
loop-left-preserved c =
    (search rules, counts_on _ _ _ _ _ _ _ _ c.loop-left.invariant.1 c.loop-left-test.true c.level.ensures c.in-Some.is (omega arith))

pub returns : goal.returns
returns c = counted_at_end _ _ _ _ _ _ c.loop-left.invariant.1 (omega (arith, c.loop-left-test.false))
