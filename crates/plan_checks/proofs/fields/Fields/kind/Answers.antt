use Rattle.std.proofs.Common.{map, ◌∙◌}
use Rattle.uno_entities.specs.Entities.{field_of}
use Rattle.plan_checks.proofs.IndexLemmas.{kind_absent, kind_found}
use Rattle.plan_checks.proofs.fields.Fields.kind.Goals as goal

pub returns-in-Some : goal.returns-in-Some
returns-in-Some c =
    kind_found (map field_of c.self.inside.list.items) c.args.self.now c.args.name.now c.place.result c.self.view_is (c.place.ensures ∙ c.self.invariant c.args.name.now) c.in-Some.place _ c.in-Some.is
    (rw c.deref.ensures.value at c.kind_at.ensures)

pub returns-in-None : goal.returns-in-None
returns-in-None c = kind_absent (map field_of c.self.inside.list.items) c.args.self.now c.args.name.now c.place.result c.self.view_is (c.place.ensures ∙ c.self.invariant c.args.name.now) c.in-None.is
