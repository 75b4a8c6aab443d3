use Rattle.std.proofs.Common.{◌∙◌, ap, sym, subst, map, []}
use Rattle.uno_values.specs.Values.{plain_of}
use Rattle.bridge_objects.specs.Marks.{free_at, AreMarked}
use Rattle.bridge_objects.proofs.Lists.{some_one, no_one}
use Rattle.bridge_objects.proofs.Marking.{marked_without}
use Rattle.bridge_objects.proofs.Seen.{fields_back, none_back, removed_same, removed_seen}
use Rattle.bridge_objects.proofs.objects.Objects.remove.Goals as goal

pub returns-then-not-lives-clause-was : goal.returns-then-not-lives-clause-was
returns-then-not-lives-clause-was c =
    ap (map plain_of) c.new.ensures.items ∙ none_back plain_of c.self.inside.prefix c.self.inside.first c.self.inside.environment c.self.inside.stubs c.self.inside.store c.args.self.now c.self.view_is c.args.number [] (no_one _ (sym c.lives.ensures.lives ∙ c.if-not-lives.true))

pub returns-then-not-lives-clause-removed : goal.returns-then-not-lives-clause-removed
returns-then-not-lives-clause-removed c = removed_same plain_of c.self.inside.prefix c.self.inside.first c.self.inside.environment c.self.inside.stubs c.self.inside.store c.args.self.now c.self.view_is c.args.number (no_one _ (sym c.lives.ensures.lives ∙ c.if-not-lives.true))

pub invariant_of-self : goal.invariant_of-self
invariant_of-self c =
    subst (λ s. AreMarked (free_at c.self.inside.prefix c.self.inside.first c.self.inside.environment c.self.inside.stubs) s.rows) (sym c.remove.ensures.removed)
    (marked_without _ c.args.number c.self.inside.store.rows c.self.invariant)

pub returns-clause-was : goal.returns-clause-was
returns-clause-was c =
    let one = some_one _ (sym c.lives.ensures.lives ∙ c.if-not-lives.false) in
    fields_back plain_of c.self.inside.prefix c.self.inside.first c.self.inside.environment c.self.inside.stubs c.self.inside.store c.args.self.now c.self.view_is c.args.number one.0 c.remove.result.items _ one.1 (c.remove.ensures.was one.0 one.1)

pub returns-clause-removed : goal.returns-clause-removed
returns-clause-removed c = removed_seen plain_of c.self.inside.prefix c.self.inside.first c.self.inside.environment c.self.inside.stubs c.self.inside.store c.args.self.now c.self.view_is c.args.number c.remove.new.self c.remove.ensures.removed
