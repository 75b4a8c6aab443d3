use Rattle.std.proofs.Common.{arith}
use Rattle.std.proofs.lemmas.Grind.{common_steps}
use Rattle.literal_reading.proofs.scan.words.is_first_name.Goals as goal

pub returns-then-is_name_of : goal.returns-then-is_name_of
returns-then-is_name_of c = grind (arith, common_steps)

pub loop-item-preserved : goal.loop-item-preserved
loop-item-preserved c = grind (arith, common_steps)

pub returns : goal.returns
returns c = grind (arith, common_steps)
