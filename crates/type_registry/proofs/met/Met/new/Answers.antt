use Rattle.type_registry.proofs.MetLemmas.{has_none}
use Rattle.type_registry.proofs.met.Met.new.Goals as goal

pub invariant_of-result : goal.invariant_of-result
invariant_of-result c = has_none _ _ c.new-2.ensures.empty c.new.ensures.items
