use Rattle.std.proofs.Common.{rules, ap, subst, ◌∙◌}
use Rattle.uno_entities.specs.Entities.{entity_of}
use Rattle.uno_model.specs.Functions.{functions_of}
use Rattle.uno_model.specs.Registry.{stands_on_body}
use Rattle.type_registry.specs.Own.{Seeks}
use Rattle.type_registry.proofs.InLineLemmas.{none_of_none, over_root_alone}
use Rattle.type_registry.proofs.SeekLemmas.{named}
use Rattle.type_registry.proofs.numbered.function_numbered.Goals as goal

pub returns-in_default : goal.returns-in_default
returns-in_default c = none_of_none c.args.registry.now c.args.name.now c.args.number (search rules)

pub returns-in-Some-past_root_below : goal.returns-in-Some-past_root_below
returns-in-Some-past_root_below c =
    c.found.ensures (functions_of c.args.registry.now c.args.name.now) c.args.number
    (over_root_alone c.args.registry.now c.args.name.now c.args.number c.in-Some-past_root_below.left c.seek_declared.result c.entities-entities.ensures.built_in
    (ap stands_on_body c.in-Some.ensures.found ∙ c.in-Some-past_root_below.ensures.0) c.in-Some-past_root_below.ensures.1
    (subst (λ fs. Seeks fs c.in-Some-past_root_below.left c.seek_declared.result)
    (named c.args.registry.now c.args.name.now (entity_of c.in-Some.entity.now) c.in-Some.ensures.found) c.seek_declared.ensures))
