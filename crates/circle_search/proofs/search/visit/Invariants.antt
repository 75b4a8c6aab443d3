use Rattle.std.proofs.Common.{◌≢◌, get_or}
use Rattle.circle_search.specs.declared.mark.Mark.TheVariants.{New, OffCircle}
use Rattle.circle_search.specs.Search.{IsFine, StayReached, work}
use Rattle.circle_search.proofs.search.visit.Given as goal

-- marks and trail are fine, and the node is not new
abbrev pub invariant-loop-start : goal.invariant-loop-start
invariant-loop-start l = record {
  fine : IsFine l.graph l.trail;
  reached : get_or l.trail.marks.items l.node OffCircle ≢ New;
  kept : StayReached l.fn.trail.marks.items l.trail.marks.items;
}

abbrev pub decreases-loop-start : goal.decreases-loop-start
decreases-loop-start l = work l.graph l.trail
