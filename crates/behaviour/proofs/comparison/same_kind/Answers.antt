use Rattle.behaviour.proofs.ComparisonLemmas.{kind_told}
use Rattle.behaviour.proofs.comparison.same_kind.Goals as goal

pub returns : goal.returns
returns c = kind_told _ _ _ c.is.ensures
