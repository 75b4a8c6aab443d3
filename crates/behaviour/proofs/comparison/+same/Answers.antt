use Rattle.behaviour.proofs.ComparisonLemmas.{other_length}
use Rattle.behaviour.proofs.comparison.+same.Goals as goal

pub same_values-returns-then-left-right : goal.same_values-returns-then-left-right
same_values-returns-then-left-right t c = other_length _ _ c.if-left-right.true
