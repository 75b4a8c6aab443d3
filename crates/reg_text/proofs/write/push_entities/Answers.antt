use Rattle.std.proofs.Common.{sym}
use Rattle.uno_entities.specs.Entities.{entity_of}
use Rattle.reg_text.proofs.TextLemmas.{written_more, no_lines}
use Rattle.reg_text.proofs.write.push_entities.Goals as goal

pub loop-entity-init : goal.loop-entity-init
loop-entity-init c = sym (no_lines c.args.text.now.items)

pub loop-entity-preserved : goal.loop-entity-preserved
loop-entity-preserved c =
    written_more c.args.entities.now c.loop-entity.entity-index c.entity-item.result _ _ _ entity_of c.loop-entity-test.true c.entity-item.is c.loop-entity.invariant c.in_ok-push_unless_built_in.ensures
