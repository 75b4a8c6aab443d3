use Rattle.std.proofs.Common.{arith}
use Rattle.std.proofs.lemmas.Grind.{common_steps}
use Rattle.literal_model.specs.Readings.{number_named}
use Rattle.literal_reading.proofs.single.item.number_named.Goals as goal

pub returns-then-eq : goal.returns-then-eq
unfolding number_named
returns-then-eq c = grind (arith, common_steps)

pub loop-item-preserved : goal.loop-item-preserved
unfolding number_named
loop-item-preserved c = grind (arith, common_steps)

pub returns : goal.returns
unfolding number_named
returns c = grind (arith, common_steps)
