use Rattle.std.proofs.Common.{◌∙◌}
use Rattle.pair_map.proofs.by_oid.remove.Goals as goal

pub returns-then-bare-clause-without : goal.returns-then-bare-clause-without
returns-then-bare-clause-without g c q = c.drop_bare.ensures.kept q ∙ c.take-value.ensures.without q
