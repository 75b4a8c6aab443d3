use Rattle.std.proofs.Common.{length}
use Rattle.rules_over_bases.proofs.SeenLemmas.{TakenTo}
use Rattle.rules_over_bases.proofs.seen.Seen.take_back.Given as goal

-- the first names are left, and no fewer than are to be
abbrev pub invariant-loop-self : goal.invariant-loop-self
invariant-loop-self l = TakenTo l.fn.self l.self l.count

abbrev pub decreases-loop-self : goal.decreases-loop-self
decreases-loop-self l = length l.self.entries.items
