use Rattle.std.proofs.Common.{◌≡◌, ◌⊎◌, ◌<◌, true, length}
use Rattle.typedef_chains.specs.Known.{Follows, Linked, StayMet, fresh_nodes, met}
use Rattle.typedef_chains.proofs.chains.go_on.Given as goal

-- the way so far leads to this node; the first one was met, or is this one
abbrev pub invariant-loop-known : goal.invariant-loop-known
invariant-loop-known l = record {
  low : l.at < length l.steps;
  linked : Linked l.steps l.way.items l.at;
  follows : Follows l.steps l.most l.known.seen.items l.known.ends.items l.way.items;
  begun : (l.at ≡ l.node) ⊎ (met l.known.seen.items l.node ≡ true);
  kept : StayMet l.fn.known.seen.items l.known.seen.items;
}

abbrev pub decreases-loop-known : goal.decreases-loop-known
decreases-loop-known l = fresh_nodes l.known.seen.items
