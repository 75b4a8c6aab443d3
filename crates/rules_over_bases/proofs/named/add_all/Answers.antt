use Rattle.std.proofs.Common.{arith}
use Rattle.rules_over_bases.proofs.SeenLemmas.{sees_none, row_on, row_stops, row_ends}
use Rattle.rules_over_bases.proofs.named.add_all.Goals as goal

pub loop-thing-init : goal.loop-thing-init
loop-thing-init g c = sees_none _

pub returns-then-not-branch : goal.returns-then-not-branch
returns-then-not-branch g c =
    row_stops g.T.Named.named c.args.things.now c.loop-thing.thing-index c.thing-item.result _ _ _ _ _ c.loop-thing-test.true c.thing-item.is c.name.ensures c.loop-thing.invariant
    c.in_ok-add.ensures c.if-not-branch.true

pub loop-thing-preserved : goal.loop-thing-preserved
loop-thing-preserved g c =
    row_on g.T.Named.named c.args.things.now c.loop-thing.thing-index c.thing-item.result _ _ _ _ _ c.loop-thing-test.true c.thing-item.is c.name.ensures c.loop-thing.invariant
    c.in_ok-add.ensures c.if-not-branch.false

pub returns : goal.returns
returns g c = row_ends g.T.Named.named c.args.things.now c.loop-thing.thing-index _ _ (omega (arith, c.loop-thing-test.false)) c.loop-thing.invariant
