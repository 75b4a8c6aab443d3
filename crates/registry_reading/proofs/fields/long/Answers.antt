use Rattle.std.proofs.Common.{arith}
use Rattle.registry_reading.proofs.NumberLemmas.{long_none, long_read}
use Rattle.registry_reading.proofs.fields.long.Goals as goal

pub returns-in-Some : goal.returns-in-Some
returns-in-Some c = grind (arith, long_read)

pub returns-in-None : goal.returns-in-None
returns-in-None c = long_none _ c.in-None.ensures
