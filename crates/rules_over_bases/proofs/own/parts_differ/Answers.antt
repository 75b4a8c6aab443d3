use Rattle.std.proofs.Common.{arith}
use Rattle.rules_over_bases.proofs.OwnLemmas.{row_of_part, parts_repeat, parts_end}
use Rattle.rules_over_bases.proofs.SeenLemmas.{sees_on}
use Rattle.rules_over_bases.proofs.own.parts_differ.Goals as goal

pub returns-then-not-branch : goal.returns-then-not-branch
returns-then-not-branch c =
    parts_repeat c.args.parts.now c.loop-part.part-index c.part-item.result _ _ _ _ c.new-seen.ensures c.loop-part-test.true c.part-item.is c.loop-part.invariant
    c.in_ok-add_part.ensures c.if-not-branch.true

pub loop-part-preserved : goal.loop-part-preserved
loop-part-preserved c =
    sees_on row_of_part c.args.parts.now c.loop-part.part-index c.part-item.result _ _ _ _ c.loop-part-test.true c.part-item.is c.loop-part.invariant
    c.in_ok-add_part.ensures c.if-not-branch.false

pub returns : goal.returns
returns c = parts_end c.args.parts.now c.loop-part.part-index _ _ c.new-seen.ensures (omega (arith, c.loop-part-test.false)) c.loop-part.invariant
