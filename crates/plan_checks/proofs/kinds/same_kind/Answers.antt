use Rattle.plan_checks.proofs.Truths.{kind_told}
use Rattle.plan_checks.proofs.kinds.same_kind.Goals as goal

pub returns : goal.returns
returns c = kind_told _ _ _ c.is.ensures
