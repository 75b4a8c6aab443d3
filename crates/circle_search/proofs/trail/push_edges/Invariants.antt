use Rattle.std.proofs.Common.{◌≡◌, ◌++◌, take}
use Rattle.circle_search.specs.Search.{edges}
use Rattle.circle_search.proofs.trail.push_edges.Given as goal

-- the targets so far wait
abbrev pub invariant-loop-target : goal.invariant-loop-target
invariant-loop-target l = l.waiting.items ≡ l.fn.waiting.items ++ edges l.place (take l.target-index l.targets)
