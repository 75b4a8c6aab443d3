use Rattle.std.proofs.Common.{length}
use Rattle.idl_repeated_names.proofs.TwinsLemmas.{TakenTo}
use Rattle.idl_repeated_names.proofs.twins.Twins.take_back.Given as goal

-- the first names are left, and no fewer than are to be
abbrev pub invariant-loop-self : goal.invariant-loop-self
invariant-loop-self l = TakenTo l.fn.self l.self l.count

abbrev pub decreases-loop-self : goal.decreases-loop-self
decreases-loop-self l = length l.self.met.items
