use Rattle.std.proofs.Common.{rules}
use Rattle.registry_reading.proofs.HeadLemmas.{tried_is}
use Rattle.registry_reading.proofs.heads.tried.Goals as goal

pub returns-clause-head : goal.returns-clause-head
returns-clause-head c = tried_is _ _ _ _ _ c.requires c.at.ensures c.in_ok-head.was (search rules)
