use Rattle.graph_order.proofs.WalkLemmas.{begun_walk, enters_reached, enters_stay, node_low}
use Rattle.graph_order.proofs.order.visit.Goals as goal

pub loop-step-init : goal.loop-step-init
loop-step-init c =
    let enters = c.in_ok-enter.ensures in
    record {
      fine = begun_walk c.args.graph.now c.args.walk.now c.enter.new.walk c.args.node c.requires.fine c.requires.empty enters;
      reached = enters_reached c.args.walk.now c.enter.new.walk c.args.node (node_low c.args.graph.now c.args.walk.now c.args.node c.requires.fine c.requires.within) enters;
      kept = enters_stay c.args.walk.now c.enter.new.walk c.args.node enters;
    }
