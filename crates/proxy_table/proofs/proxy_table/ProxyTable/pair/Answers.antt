use Rattle.std.proofs.Common.{sym}
use Rattle.proxy_table.proofs.Steps.{has_release, has_number, inside, outside, at_none}
use Rattle.proxy_table.proofs.proxy_table.ProxyTable.pair.Goals as goal

pub returns-in_err-release-clause-none : goal.returns-in_err-release-clause-none
returns-in_err-release-clause-none c =
    at_none c.from_residual.result
    (λ p has. has_release c.self.inside.releases c.self.inside.made c.self.inside.numbers c.self.invariant c.proxy.inside.number p
    (inside p _ _ c.self.inside.made c.self.inside.numbers c.args.self.now c.self.view_is c.proxy.view_is has) (sym c.in_err-release.ensures.value))

pub returns-clause-found : goal.returns-clause-found
returns-clause-found c =
    outside _ _ _ c.self.inside.made c.self.inside.numbers c.args.self.now c.self.view_is c.proxy.view_is
    (has_number c.self.inside.releases c.self.inside.made c.self.inside.numbers c.self.invariant c.proxy.inside.number c.in_ok-release.release.now c.in_ok-release.ensures.value)
