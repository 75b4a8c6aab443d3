use Rattle.std.proofs.Common.{subst, sym}
use Rattle.registry_reading.specs.Heads.{plain_heads, NamesRise}
use Rattle.registry_reading.proofs.HeadLemmas.{none_rise}
use Rattle.registry_reading.proofs.heads.Heads.new.Goals as goal

pub invariant_of-result : goal.invariant_of-result
invariant_of-result c = subst (λ hs. NamesRise (plain_heads hs)) (sym c.new.ensures.items) none_rise
