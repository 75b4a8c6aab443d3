use Rattle.plan_checks.proofs.Truths.{base_told}
use Rattle.plan_checks.proofs.checker.Checker.is_base_of.Goals as goal

pub returns : goal.returns
returns c = base_told _ _ _ _ c.args.self.now.sound c.has_base.ensures
