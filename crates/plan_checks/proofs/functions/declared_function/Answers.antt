use Rattle.std.proofs.Common.{ap, ◌∙◌}
use Rattle.std.specs.List.{find}
use Rattle.std.specs.Str.{bytes_eq}
use Rattle.plan_model.specs.Contexts.{declared_function}
use Rattle.uno_entities.specs.Entities.{entity_of}
use Rattle.uno_model.specs.Functions as plain
use Rattle.type_registry.proofs.SeekLemmas.{named}
use Rattle.plan_checks.proofs.functions.declared_function.Goals as goal

pub returns-in-Some : goal.returns-in-Some
unfolding declared_function
returns-in-Some c =
    c.declared_in.ensures
    ∙ ap (λ fs. find (λ (f : plain.Function). bytes_eq c.args.name.now f.name) fs) (named c.args.registry.now c.args.face.now (entity_of c.in-Some.entity.now) c.in-Some.ensures.found)
