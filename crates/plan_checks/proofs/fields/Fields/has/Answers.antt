use Rattle.std.proofs.Common.{map, ◌∙◌}
use Rattle.uno_entities.specs.Entities.{field_of}
use Rattle.plan_checks.proofs.IndexLemmas.{is_there}
use Rattle.plan_checks.proofs.fields.Fields.has.Goals as goal

pub returns : goal.returns
returns c = c.is_some.ensures ∙ is_there (map field_of c.self.inside.list.items) c.args.self.now c.args.name.now c.place.result c.self.view_is (c.place.ensures ∙ c.self.invariant c.args.name.now)
