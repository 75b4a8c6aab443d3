use Rattle.uno_model.proofs.BuiltInLaws.{built_in_rising, built_in_alone}
use Rattle.uno_types.proofs.registry.Registry.new.Goals as goal

pub invariant_of-result : goal.invariant_of-result
invariant_of-result c = rw c.in_ok-entities.ensures (built_in_rising, built_in_alone)
