use Rattle.std.proofs.Common.{◌≡◌, ◌≢◌, ℕ, ◌<◌, [], get_or}
use Rattle.circle_search.specs.declared.mark.Mark.TheVariants.{New, OffCircle}
use Rattle.circle_search.specs.Search.{IsFine}
use Rattle.circle_search.proofs.search.search.Given as goal

-- the nodes so far were reached, and the trail is empty
abbrev pub invariant-loop-node : goal.invariant-loop-node
invariant-loop-node l = record {
  fine : IsFine l.graph l.trail;
  empty : l.trail.nodes.items ≡ [];
  reached : (i : ℕ) → i < l.node → get_or l.trail.marks.items i OffCircle ≢ New;
}
