use Rattle.std.proofs.Common.{sym, ◌∙◌}
use Rattle.proxy_table.proofs.Steps.{has_release, is_there, of_pair, agrees_freed, inside, freed_outside}
use Rattle.proxy_table.proofs.proxy_table.ProxyTable.take_release.Goals as goal

pub unreachable-requires : goal.unreachable-requires
unreachable-requires c =
    has_release c.self.inside.releases c.self.inside.made c.self.inside.numbers c.self.invariant c.proxy.inside.number c.requires.0
    (inside c.requires.0 _ _ c.self.inside.made c.self.inside.numbers c.args.self.now c.self.view_is c.proxy.view_is c.requires.1) (sym c.swap_remove.ensures.value ∙ c.in_default.is)

pub remove-requires : goal.remove-requires
remove-requires c = is_there c.self.inside.releases c.self.inside.made c.self.inside.numbers c.self.invariant c.proxy.inside.number c.in-Some.release c.in-Some.ensures.value

pub invariant_of-self : goal.invariant_of-self
invariant_of-self c =
    agrees_freed c.self.inside.releases c.self.inside.made c.self.inside.numbers c.self.invariant c.proxy.inside.number c.in-Some.release c.in-Some.ensures.value c.swap_remove.new.self c.remove.new.self c.swap_remove.ensures.updates c.remove.ensures.without

pub returns-clause-release : goal.returns-clause-release
returns-clause-release c = λ p has.
    of_pair c.self.inside.releases c.self.inside.made c.self.inside.numbers c.self.invariant c.proxy.inside.number c.in-Some.release c.in-Some.ensures.value p
    (inside p _ _ c.self.inside.made c.self.inside.numbers c.args.self.now c.self.view_is c.proxy.view_is has)

pub returns-clause-freed : goal.returns-clause-freed
returns-clause-freed c = λ p has.
    freed_outside p _ c.self.inside.made c.self.inside.numbers c.remove.new.self c.args.self.now c.self.view_is c.remove.ensures.without
    (of_pair c.self.inside.releases c.self.inside.made c.self.inside.numbers c.self.invariant c.proxy.inside.number c.in-Some.release c.in-Some.ensures.value p
    (inside p _ _ c.self.inside.made c.self.inside.numbers c.args.self.now c.self.view_is c.proxy.view_is has))
