use Rattle.std.proofs.Common.{length}
use Rattle.registry_reading.proofs.HeadLemmas.{LookedAt}
use Rattle.registry_reading.proofs.heads.heads_of.Given as goal

abbrev pub invariant-loop-line : goal.invariant-loop-line
invariant-loop-line l = LookedAt l.bytes l.rest l.number l.is_header l.heads

abbrev pub decreases-loop-line : goal.decreases-loop-line
decreases-loop-line l = length l.rest
