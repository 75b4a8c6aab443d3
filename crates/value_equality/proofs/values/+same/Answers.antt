use Rattle.value_equality.proofs.EqualLemmas.{other_values}
use Rattle.value_equality.proofs.values.+same.Goals as goal

pub same_values-returns-then-xs-ys : goal.same_values-returns-then-xs-ys
same_values-returns-then-xs-ys t c = other_values _ _ c.if-xs-ys.true
