use Rattle.std.proofs.Common.{sym}
use Rattle.uno_entities.specs.Entities.{item_of}
use Rattle.registry_text_model.specs.Lines.{item_line}
use Rattle.reg_text.proofs.TextLemmas.{line_more, no_lines}
use Rattle.reg_text.proofs.parts.push_items.Goals as goal

pub loop-item-init : goal.loop-item-init
loop-item-init c = sym (no_lines c.args.text.now.items)

pub loop-item-preserved : goal.loop-item-preserved
loop-item-preserved c = line_more c.args.items.now c.loop-item.item-index c.item-item.result _ _ _ item_of item_line c.loop-item-test.true c.item-item.is c.loop-item.invariant c.in_ok-push_item.ensures
