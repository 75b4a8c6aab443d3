use Rattle.std.proofs.Common.{refl}
use Rattle.rules_over_bases.proofs.SeenLemmas.{forgets_plain}
use Rattle.rules_over_bases.proofs.seen.Seen.forget_other.Goals as goal

pub returns-clause-sets : goal.returns-clause-sets
returns-clause-sets c = forgets_plain c.args.self.now _ c.args.name c.remove.ensures.updates refl refl
