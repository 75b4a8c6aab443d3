use Rattle.std.proofs.Common.{arith}
use Rattle.std.proofs.lemmas.Grind.{common_steps}
use Rattle.literal_model.specs.Literals.{first_item}
use Rattle.literal_reading.proofs.items.first_item.Goals as goal

pub returns-then-item-number : goal.returns-then-item-number
unfolding first_item
returns-then-item-number c = grind (arith, common_steps)

pub loop-item-preserved : goal.loop-item-preserved
unfolding first_item
loop-item-preserved c = grind (arith, common_steps)

pub returns : goal.returns
unfolding first_item
returns c = grind (arith, common_steps)
