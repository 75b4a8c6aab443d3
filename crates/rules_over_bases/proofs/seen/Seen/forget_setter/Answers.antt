use Rattle.std.proofs.Common.{refl}
use Rattle.rules_over_bases.proofs.SeenLemmas.{forgets_setter}
use Rattle.rules_over_bases.proofs.seen.Seen.forget_setter.Goals as goal

pub returns-clause-sets : goal.returns-clause-sets
returns-clause-sets c = forgets_setter c.args.self.now _ c.args.attribute c.remove.ensures.updates refl refl
