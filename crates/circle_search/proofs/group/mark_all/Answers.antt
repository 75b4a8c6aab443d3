use Rattle.circle_search.proofs.Parts.{marked_more}
use Rattle.circle_search.proofs.group.mark_all.Goals as goal

pub loop-node-preserved : goal.loop-node-preserved
loop-node-preserved c =
    marked_more c.args.nodes.now c.args.mark c.args.marks.now c.loop-node.marks c.loop-node.node-index c.loop-node-test.true
    (c.requires c.loop-node.node-index 0 c.loop-node-test.true) c.loop-node.invariant
