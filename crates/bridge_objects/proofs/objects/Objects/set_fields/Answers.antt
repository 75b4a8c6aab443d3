use Rattle.std.proofs.Common.{◌∙◌, refl, sym, subst}
use Rattle.uno_values.specs.Values.{plain_of}
use Rattle.bridge_objects.specs.Marks.{free_at, AreMarked}
use Rattle.bridge_objects.proofs.Lists.{some_one, no_one}
use Rattle.bridge_objects.proofs.Marking.{marked_changed}
use Rattle.bridge_objects.proofs.Seen.{fields_back, none_back, fields_same, fields_set}
use Rattle.bridge_objects.proofs.objects.Objects.set_fields.Goals as goal

pub returns-then-not-lives-clause-was : goal.returns-then-not-lives-clause-was
returns-then-not-lives-clause-was c = none_back plain_of c.self.inside.prefix c.self.inside.first c.self.inside.environment c.self.inside.stubs c.self.inside.store c.args.self.now c.self.view_is c.args.number _ (no_one _ (sym c.lives.ensures.lives ∙ c.if-not-lives.true))

pub returns-then-not-lives-clause-set : goal.returns-then-not-lives-clause-set
returns-then-not-lives-clause-set c = fields_same plain_of c.self.inside.prefix c.self.inside.first c.self.inside.environment c.self.inside.stubs c.self.inside.store c.args.self.now c.self.view_is c.args.number _ (no_one _ (sym c.lives.ensures.lives ∙ c.if-not-lives.true))

pub invariant_of-self : goal.invariant_of-self
invariant_of-self c =
    let one = some_one _ (sym c.lives.ensures.lives ∙ c.if-not-lives.false) in
    subst (λ s. AreMarked (free_at c.self.inside.prefix c.self.inside.first c.self.inside.environment c.self.inside.stubs) s.rows) (sym (c.replace_fields.ensures.set one.0 one.1))
    (marked_changed _ c.args.number c.self.inside.store.rows one.0 (record one.0 { fields = c.args.fields.items }) one.1 refl c.self.invariant)

pub returns-clause-was : goal.returns-clause-was
returns-clause-was c =
    let one = some_one _ (sym c.lives.ensures.lives ∙ c.if-not-lives.false) in
    fields_back plain_of c.self.inside.prefix c.self.inside.first c.self.inside.environment c.self.inside.stubs c.self.inside.store c.args.self.now c.self.view_is c.args.number one.0 c.replace_fields.result.items _ one.1 (c.replace_fields.ensures.was one.0 one.1)

pub returns-clause-set : goal.returns-clause-set
returns-clause-set c =
    let one = some_one _ (sym c.lives.ensures.lives ∙ c.if-not-lives.false) in
    fields_set plain_of c.self.inside.prefix c.self.inside.first c.self.inside.environment c.self.inside.stubs c.self.inside.store c.args.self.now c.self.view_is c.args.number one.0 c.args.fields.items c.replace_fields.new.self c.lives.ensures.rises one.1 (c.replace_fields.ensures.set one.0 one.1)
