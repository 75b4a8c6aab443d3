use Rattle.registry_reading.proofs.FlagLemmas.{nine_flags}
use Rattle.registry_reading.proofs.words.take_flags.Goals as goal

pub returns : goal.returns
returns c =
    nine_flags _ c.take-bound.ensures c.take-constrained.ensures c.take-maybeambiguous.ensures c.take-maybedefault.ensures c.take-maybevoid.ensures
    c.take-optional.ensures c.take-readonly.ensures c.take-removable.ensures c.take-transient.ensures
