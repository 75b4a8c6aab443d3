use Rattle.registry_reading.proofs.NumberLemmas.{begins, goes_on}
use Rattle.registry_reading.proofs.number.value.Goals as goal
use Rattle.std.proofs.Common.{refl}

pub loop-digit-init : goal.loop-digit-init
loop-digit-init c = begins

pub loop-digit-preserved : goal.loop-digit-preserved
loop-digit-preserved c = goes_on c.args.digits.now c.loop-digit.digit-index c.loop-digit.number c.one_more-number.result _ c.loop-digit.invariant c.loop-digit-test.true refl c.one_more-number.ensures
