use Rattle.std.proofs.Common.{arith}
use Rattle.std.proofs.lemmas.Grind.{common_steps}
use Rattle.literal_reading.proofs.scan.words.is_item_of_some.Goals as goal

pub returns-then-is_first_name : goal.returns-then-is_first_name
returns-then-is_first_name c = grind (arith, common_steps)

pub loop-entity-preserved : goal.loop-entity-preserved
loop-entity-preserved c = grind (arith, common_steps)

pub returns : goal.returns
returns c = grind (arith, common_steps)
