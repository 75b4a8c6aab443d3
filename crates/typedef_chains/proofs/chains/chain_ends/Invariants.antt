use Rattle.std.proofs.Common.{◌≡◌, ℕ, ◌<◌, true, []}
use Rattle.typedef_chains.specs.Known.{Follows, met}
use Rattle.typedef_chains.proofs.chains.chain_ends.Given as goal

abbrev pub invariant-loop-node : goal.invariant-loop-node
invariant-loop-node l = record {
  follows : Follows l.steps l.most l.known.seen.items l.known.ends.items [];
  each : (k : ℕ) → k < l.node → met l.known.seen.items k ≡ true;
}
