use Rattle.std.proofs.Common.{arith}
use Rattle.uno_entities.proofs.FunctionLemmas.{entity_step, entities_end}
use Rattle.uno_entities.proofs.functions.functions_of_all.Goals as goal

pub loop-entity-preserved : goal.loop-entity-preserved
loop-entity-preserved c = (
  entity_step c.args.entities.now c.loop-entity.entity-index c.entity-item.result c.loop-entity.total _ _ _ _ c.loop-entity-test.true c.entity-item.is c.loop-entity.invariant.0 c.functions_of.ensures
      c.saturating_add-total.ensures,
  omega (arith, c.saturating_add-total.ensures),
)

pub returns : goal.returns
returns c = entities_end c.args.entities.now c.loop-entity.entity-index c.loop-entity.total _ _ (omega (arith, c.loop-entity-test.false)) c.loop-entity.invariant.1 c.loop-entity.invariant.0
