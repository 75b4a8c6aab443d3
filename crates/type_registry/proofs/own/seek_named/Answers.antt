use Rattle.std.proofs.Common.{subst}
use Rattle.uno_entities.specs.Entities.{entity_of}
use Rattle.type_registry.specs.Own.{Seeks}
use Rattle.type_registry.proofs.SeekLemmas.{named}
use Rattle.type_registry.proofs.own.seek_named.Goals as goal

pub returns-in-Some : goal.returns-in-Some
returns-in-Some c =
    subst (λ fs. Seeks fs c.args.number c.seek_declared.result) (named c.args.registry.now c.args.owner.now (entity_of c.in-Some.entity.now) c.in-Some.ensures.found)
    c.seek_declared.ensures
