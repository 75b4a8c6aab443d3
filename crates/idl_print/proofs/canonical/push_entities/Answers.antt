use Rattle.uno_entities.specs.Entities.{entity_of}
use Rattle.idl_print.proofs.ModuleLemmas.{unoidl_more}
use Rattle.idl_print.proofs.canonical.push_entities.Goals as goal

pub loop-entity-preserved : goal.loop-entity-preserved
loop-entity-preserved c =
    unoidl_more entity_of c.args.entities.now c.loop-entity.entity-index c.entity-item.result _ _ _ c.loop-entity-test.true c.entity-item.is c.loop-entity.invariant c.in_ok-push_unless_built_in.ensures
