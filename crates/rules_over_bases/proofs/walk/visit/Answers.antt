use Rattle.std.proofs.Common.{rules}
use Rattle.rules_over_bases.proofs.StandingLemmas.{only_at}
use Rattle.rules_over_bases.proofs.walk.visit.Goals as goal

pub go_on-requires-clause-base : goal.go_on-requires-clause-base
go_on-requires-clause-base c = only_at c.args.entities.now c.args.place c.in-OnOne.base _ (search rules) c.index-entities-place.is c.in-OnOne.ensures
