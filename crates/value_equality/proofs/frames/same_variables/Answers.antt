use Rattle.value_equality.proofs.EqualLemmas.{other_items}
use Rattle.value_equality.proofs.frames.same_variables.Goals as goal

pub returns-then-xs-ys : goal.returns-then-xs-ys
returns-then-xs-ys c = other_items _ _ _ c.if-xs-ys.true
