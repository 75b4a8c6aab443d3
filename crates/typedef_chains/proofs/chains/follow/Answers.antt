use Rattle.std.proofs.Common.{subst, sym}
use Rattle.typedef_chains.specs.Known.{Linked}
use Rattle.typedef_chains.proofs.KnownLemmas.{none_linked}
use Rattle.typedef_chains.proofs.chains.follow.Goals as goal

pub go_on-requires-clause-linked : goal.go_on-requires-clause-linked
go_on-requires-clause-linked c = subst (λ xs. Linked c.args.steps.now xs c.args.node) (sym c.new-way.ensures.items) (none_linked c.args.steps.now c.args.most c.args.node)
