use Rattle.std.proofs.Common.{length}
use Rattle.registry_reading.proofs.ReadLemmas.{InLines}
use Rattle.registry_reading.proofs.read.read_entities.Given as goal

abbrev pub invariant-loop-line : goal.invariant-loop-line
invariant-loop-line l = InLines l.fn.bytes l.rest l.number l.heads l.reader

abbrev pub decreases-loop-line : goal.decreases-loop-line
decreases-loop-line l = length l.rest
