use Rattle.std.proofs.Common.{rules, arith}
use Rattle.uno_types.proofs.MemberLemmas.{own_fit, own_found, none_before, narrows_on, none_at_end}
use Rattle.uno_types.proofs.members.member_within.Goals as goal

pub overflow_sub-before : goal.overflow_sub-before
overflow_sub-before c = own_fit _ _ _ _ _ c.loop-left.invariant.1.long c.loop-left-test.true c.level.ensures

pub returns-then-before-place : goal.returns-then-before-place
returns-then-before-place c =
    own_found _ _ _ _ _ _ _ _ _ c.loop-left.invariant.1 c.loop-left-test.true c.level.ensures c.if-before-place.true c.get.ensures.lookup.2 c.get.ensures.lookup.1

pub returns-in_err-at : goal.returns-in_err-at
returns-in_err-at c = absurd (none_before _ _ _ _ _ _ c.loop-left.invariant.1.long c.loop-left-test.true c.level.ensures c.if-before-place.false c.in_err-at.was)

pub loop-left-preserved : goal.loop-left-preserved
loop-left-preserved c =
    (search rules, narrows_on _ _ _ _ _ _ _ _ _ c.loop-left.invariant.1 c.loop-left-test.true c.level.ensures c.if-before-place.false c.in_ok-at.was)

pub returns : goal.returns
returns c = none_at_end _ _ _ _ _ _ _ c.loop-left.invariant.1 (omega (arith, c.loop-left-test.false))
