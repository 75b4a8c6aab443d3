use Rattle.std.proofs.Common.{arith}
use Rattle.rules_over_bases.proofs.OverLemmas.{row_of_member, members_repeat, members_end}
use Rattle.rules_over_bases.proofs.SeenLemmas.{sees_none, sees_on}
use Rattle.rules_over_bases.proofs.over.add_members.Goals as goal

pub loop-member-init : goal.loop-member-init
loop-member-init c = sees_none _

pub returns-then-not-branch : goal.returns-then-not-branch
returns-then-not-branch c =
    members_repeat c.args.members.now c.loop-member.member-index c.member-item.result _ _ _ _ c.loop-member-test.true c.member-item.is c.loop-member.invariant
    c.in_ok-add_member.ensures c.if-not-branch.true

pub loop-member-preserved : goal.loop-member-preserved
loop-member-preserved c =
    sees_on row_of_member c.args.members.now c.loop-member.member-index c.member-item.result _ _ _ _ c.loop-member-test.true c.member-item.is c.loop-member.invariant
    c.in_ok-add_member.ensures c.if-not-branch.false

pub returns : goal.returns
returns c = members_end c.args.members.now c.loop-member.member-index _ _ (omega (arith, c.loop-member-test.false)) c.loop-member.invariant
