use Rattle.std.proofs.Common.{arith}
use Rattle.uno_entities.proofs.FunctionLemmas.{member_step, members_end}
use Rattle.uno_entities.proofs.functions.functions_of_members.Goals as goal

-- src/functions.rt:72:5
pub loop-member-preserved : goal.loop-member-preserved
loop-member-preserved c = (
  member_step c.args.members.now c.loop-member.member-index c.member-item.result c.loop-member.total _ _ _ _ c.loop-member-test.true c.member-item.is
      c.loop-member.invariant.0 c.functions_of_one.ensures
      omega arith c.saturating_add-total.ensures,
  omega (arith, c.saturating_add-total.ensures),
)

pub returns : goal.returns
returns c = members_end c.args.members.now c.loop-member.member-index c.loop-member.total _ _ (omega (arith, c.loop-member-test.false)) c.loop-member.invariant.1 c.loop-member.invariant.0
