use Rattle.std.proofs.Common.{refl, sym}
use Rattle.circle_search.proofs.Ends.{root_fine, entered_kept}
use Rattle.circle_search.proofs.search.visit.Goals as goal

pub loop-start-init : goal.loop-start-init
loop-start-init c =
    rw (c.in_ok-enter.ensures.marked, c.in_ok-enter.ensures.nodes, c.in_ok-enter.ensures.starts, c.in_ok-enter.ensures.waiting) (record {
      fine = root_fine c.args.graph.now c.args.trail.now.marks.items c.args.trail.now.nodes.items c.args.trail.now.starts.items c.args.trail.now.waiting.items c.args.node
          c.requires.fine c.requires.empty (sym c.in-New.ensures);
      reached = λ new. (entered_kept c.args.trail.now.marks.items c.args.node _ c.args.node (sym c.in-New.ensures) new).0 refl;
      kept = λ i new. (entered_kept c.args.trail.now.marks.items c.args.node _ i (sym c.in-New.ensures) new).1;
    })
