use Rattle.std.proofs.Common.{ap, Err}
use Rattle.idl_check.proofs.RegistryLemmas.{found_added, found_twice, not_refused}
use Rattle.uno_entities.specs.Entities.{entity_of}
use Rattle.idl_check.proofs.registry.add.Goals as goal

pub returns-in-Ok : goal.returns-in-Ok
returns-in-Ok c name = found_added name _ _ (entity_of c.args.entity) c.in-Ok.ensures.added (λ twice. not_refused (c.in-Ok.ensures.twice.1 twice))

pub returns-in-Err-Twice : goal.returns-in-Err-Twice
returns-in-Err-Twice c name =
    rw c.in-Err-Twice.ensures.refused (found_twice name _ (entity_of c.args.entity) (c.in-Err-Twice.ensures.twice.0 (ap Err c.in-Err-Twice.field-0-is)))
