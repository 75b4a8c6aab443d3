use Rattle.std.proofs.Common.{◌≡◌, replicate, None}
use Rattle.urp_cache.proofs.read_cache.ReadCache.new.Given as goal

abbrev pub invariant-loop : goal.invariant-loop
invariant-loop g l = l.names.items ≡ replicate l.counter None
