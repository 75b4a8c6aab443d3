use Rattle.std.proofs.Common.{ap, map, ◌∙◌}
use Rattle.std.specs.List.{find}
use Rattle.std.specs.Str.{bytes_eq}
use Rattle.plan_model.specs.Contexts as plain
use Rattle.plan_checks.proofs.ScopeLemmas.{named_absent, named_found}
use Rattle.plan_checks.specs.Variables.{scoped_of}
use Rattle.plan_checks.proofs.scope.Scope.named.Goals as goal

pub returns-then-not-self : goal.returns-then-not-self
returns-then-not-self c =
    c.variable_named.ensures ∙ ap (λ xs. find (λ (x : plain.Scoped). bytes_eq c.args.name.now x.name) (map scoped_of xs)) c.deref.ensures.value
    ∙ ap (find (λ (x : plain.Scoped). bytes_eq c.args.name.now x.name)) c.self.view_is

pub returns-in-Some : goal.returns-in-Some
returns-in-Some c =
    named_found c.args.name.now (map scoped_of c.self.inside.list.items) c.args.self.now c.self.inside.names.keys c.get_index_of.result c.self.view_is (c.self.invariant c.if-not-self.false)
    c.get_index_of.ensures.index c.in-Some.place _ c.in-Some.is (rw c.deref-in-Some.ensures.value at c.variable_at.ensures)

pub returns-in-None : goal.returns-in-None
returns-in-None c =
    named_absent c.args.name.now (map scoped_of c.self.inside.list.items) c.args.self.now c.self.inside.names.keys c.get_index_of.result c.self.view_is (c.self.invariant c.if-not-self.false)
    c.get_index_of.ensures.index c.in-None.is
