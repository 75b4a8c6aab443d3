use Rattle.std.proofs.Common.{inl, inr, sym, ap}
use Rattle.circle_search.specs.Search.{is_left}
use Rattle.circle_search.proofs.Looking.{left_fine, new_fine, open_fine}
use Rattle.circle_search.proofs.Leaving.{leave_fine, leave_less}
use Rattle.circle_search.proofs.Work.{enter_less}
use Rattle.circle_search.proofs.search.advance.Goals as goal

pub returns-in_default-clause-fine : goal.returns-in_default-clause-fine
returns-in_default-clause-fine c =
    rw (c.leave.ensures.nodes, c.leave.ensures.starts, c.leave.ensures.waiting, c.in_default.ensures.rest)
    (leave_fine c.args.graph.now c.args.trail.now.marks.items c.args.trail.now.nodes.items c.args.trail.now.starts.items c.args.trail.now.waiting.items c.args.start
    c.requires.fine c.requires.some c.requires.last c.in_default.ensures.none c.leave.new.trail.marks.items c.leave.ensures.marked)

pub returns-in_default-clause-less : goal.returns-in_default-clause-less
returns-in_default-clause-less c =
    rw (c.leave.ensures.nodes, c.leave.ensures.waiting, c.in_default.ensures.rest)
    (leave_less c.args.graph.now c.args.trail.now.marks.items c.args.trail.now.nodes.items c.args.trail.now.starts.items c.args.trail.now.waiting.items c.args.start
    c.requires.fine c.requires.some c.requires.last c.in_default.ensures.none c.leave.new.trail.marks.items c.leave.ensures.marked)

pub returns-in_ok-enter-in-New-clause-fine : goal.returns-in_ok-enter-in-New-clause-fine
returns-in_ok-enter-in-New-clause-fine c =
    rw (c.in_ok-enter-in-New.ensures.marked, c.in_ok-enter-in-New.ensures.nodes, c.in_ok-enter-in-New.ensures.starts, c.in_ok-enter-in-New.ensures.waiting)
    (new_fine c.args.graph.now c.args.trail.now.marks.items c.args.trail.now.nodes.items c.args.trail.now.starts.items c.next_edge.new.waiting.items c.in-Some.edge
    (rw c.in-Some.ensures.rest at c.requires.fine) (rw c.requires.last c.in-Some.ensures.none) (sym c.in-New.ensures))

pub returns-in_ok-enter-in-New-clause-less : goal.returns-in_ok-enter-in-New-clause-less
returns-in_ok-enter-in-New-clause-less c =
    rw (c.in_ok-enter-in-New.ensures.marked, c.in_ok-enter-in-New.ensures.nodes, c.in_ok-enter-in-New.ensures.waiting, c.in-Some.ensures.rest)
    (enter_less c.args.graph.now c.args.trail.now.marks.items c.args.trail.now.nodes.items c.next_edge.new.waiting.items c.in-Some.edge c.in-Some.edge.target
    c.requires.fine.of_marks.long (sym c.in-New.ensures))

pub returns-in-Open-clause-fine : goal.returns-in-Open-clause-fine
returns-in-Open-clause-fine c =
    rw c.join_groups.ensures.front
    (open_fine c.args.graph.now c.args.trail.now.marks.items c.args.trail.now.nodes.items c.args.trail.now.starts.items c.next_edge.new.waiting.items c.in-Some.edge
    c.in-Open.place _ (rw c.in-Some.ensures.rest at c.requires.fine) (rw c.requires.last c.in-Some.ensures.none) (sym c.in-Open.ensures) c.join_groups.ensures.cut)

pub returns-in-OffCircle-clause-fine : goal.returns-in-OffCircle-clause-fine
returns-in-OffCircle-clause-fine c =
    left_fine c.args.graph.now c.args.trail.now.marks.items c.args.trail.now.nodes.items c.args.trail.now.starts.items c.next_edge.new.waiting.items c.in-Some.edge
    (rw c.in-Some.ensures.rest at c.requires.fine)
    (elim (rw c.mark.ensures at c.in-OffCircle.is) [ inl off ↦ ap is_left off | inr on ↦ ap is_left on ])
