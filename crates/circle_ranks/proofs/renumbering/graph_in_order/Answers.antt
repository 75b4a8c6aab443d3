use Rattle.std.proofs.Common.{◌∙◌, ap, get_or}
use Rattle.std.proofs.lemmas.List.{get_or_default}
use Rattle.circle_ranks.specs.Order.{renumbered}
use Rattle.circle_ranks.proofs.LoopLemmas.{no_rows, rows_more}
use Rattle.circle_ranks.proofs.renumbering.graph_in_order.Goals as goal

pub loop-node-init : goal.loop-node-init
loop-node-init c = c.new-ordered.ensures ∙ no_rows c.args.graph.now c.args.order.now c.args.numbers.now

pub loop-node-preserved : goal.loop-node-preserved
loop-node-preserved c =
    let i = c.loop-node.node-index in
    let node = get_or c.args.order.now i 0 in
    rows_more c.args.graph.now c.loop-node.ordered c.add_node.new.self c.args.order.now c.args.numbers.now c.in_ok-row.row.items i node
    c.loop-node-test.true (get_or_default c.args.order.now i 0 node c.loop-node-test.true) c.loop-node.invariant (c.in_ok-row.ensures ∙ ap (renumbered c.args.numbers.now) c.targets.ensures)
    c.in_ok-add_node.ensures.added
