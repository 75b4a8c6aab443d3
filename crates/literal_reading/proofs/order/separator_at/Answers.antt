use Rattle.std.proofs.Common.{arith}
use Rattle.std.proofs.lemmas.Grind.{common_steps}
use Rattle.literal_reading.proofs.order.separator_at.Goals as goal

pub returns-in_default-last : goal.returns-in_default-last
returns-in_default-last c = grind (arith, common_steps)

pub returns-then-first-eq44 : goal.returns-then-first-eq44
returns-then-first-eq44 c = grind (arith, common_steps)

pub returns-then-first-closing : goal.returns-then-first-closing
returns-then-first-closing c = grind (arith, common_steps)

pub returns : goal.returns
returns c = grind (arith, common_steps)
