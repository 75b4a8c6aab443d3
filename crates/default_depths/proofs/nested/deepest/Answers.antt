use Rattle.std.proofs.Common.{arith}
use Rattle.default_depths.proofs.DepthLaws.{all_deep, deeper}
use Rattle.default_depths.proofs.TableLaws.{member_known}
use Rattle.default_depths.proofs.nested.deepest.Goals as goal

pub kind_depth-requires-clause-known : goal.kind_depth-requires-clause-known
kind_depth-requires-clause-known c =
    member_known c.args.registry.now c.args.depths.now c.args.members.now c.loop-member.member-index c.member-item.result c.loop-member-test.true c.member-item.is c.requires.known

pub loop-member-preserved : goal.loop-member-preserved
loop-member-preserved c =
    let both = deeper c.args.registry.now c.args.members.now c.loop-member.member-index c.member-item.result _ _ _ _ c.loop-member-test.true c.member-item.is c.kind_depth.ensures c.max-deepest.ensures
    c.loop-member.invariant.low c.loop-member.invariant.whole in
    record { whole = both.0; low = both.1 }

pub returns : goal.returns
returns c =
    all_deep c.args.registry.now c.args.members.now c.loop-member.member-index c.loop-member.deepest _ (omega (arith, c.loop-member-test.false)) c.loop-member.invariant.whole c.loop-member.invariant.low
