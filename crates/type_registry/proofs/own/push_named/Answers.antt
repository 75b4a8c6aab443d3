use Rattle.std.proofs.Common.{◌≡◌, ◌++◌, subst}
use Rattle.std.specs.Prelude.{OnOk}
use Rattle.uno_entities.specs.Entities.{entity_of}
use Rattle.type_registry.specs.Functions.{functions_at}
use Rattle.type_registry.proofs.SeekLemmas.{named}
use Rattle.type_registry.proofs.own.push_named.Goals as goal

pub returns-in-Some : goal.returns-in-Some
returns-in-Some c =
    subst (λ fs. OnOk c.push_declared.result (functions_at c.push_declared.new.table.items ≡ functions_at c.args.table.now.items ++ fs))
    (named c.args.registry.now c.args.owner.now (entity_of c.in-Some.entity.now) c.in-Some.ensures.found) c.push_declared.ensures
