use Rattle.std.proofs.Common.{◌≡◌, length}
use Rattle.typedef_chains.specs.Known.{Returns}
use Rattle.typedef_chains.proofs.chains.go_back.Given as goal

abbrev pub invariant-loop-node : goal.invariant-loop-node
invariant-loop-node l = record {
  returns : Returns l.steps l.most l.known.seen.items l.known.ends.items l.way.items l.end;
  kept : l.known.seen.items ≡ l.fn.known.seen.items;
}

abbrev pub decreases-loop-node : goal.decreases-loop-node
decreases-loop-node l = length l.way.items
