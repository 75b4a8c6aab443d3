use Rattle.std.proofs.Common.{take}
use Rattle.circle_search.specs.Search.{IsMarked}
use Rattle.circle_search.proofs.group.mark_all.Given as goal

-- the nodes so far have the mark
abbrev pub invariant-loop-node : goal.invariant-loop-node
invariant-loop-node l = IsMarked (take l.node-index l.nodes) l.mark l.initial.marks l.marks
