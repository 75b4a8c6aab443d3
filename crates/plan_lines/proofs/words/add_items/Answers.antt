use Rattle.std.proofs.Common.{◌+◌, map, drop, arith}
use Rattle.uno_entities.specs.Entities.{item_of}
use Rattle.plan_lines.specs.Index.{seen_in}
use Rattle.plan_lines.proofs.WordLemmas.{item_next, items_end, items_more, items_done}
use Rattle.plan_lines.proofs.words.add_items.Goals as goal

pub loop-item-preserved : goal.loop-item-preserved
loop-item-preserved c =
    item_next _ _ _ (seen_in c.loop-item.numbers) (seen_in c.add_item.new.numbers) (item_of c.item-item.result) _ (map item_of (drop (c.loop-item.item-index + 1) c.args.items.now)) _
    (items_more c.args.items.now c.loop-item.item-index c.item-item.result (omega arith) c.item-item.is) c.in_ok-add_item.ensures.names c.in_ok-add_item.ensures.numbers c.loop-item.invariant

pub returns : goal.returns
returns c = items_end _ _ (seen_in c.loop-item.numbers) _ (map item_of c.args.items.now) (items_done c.args.items.now c.loop-item.item-index (omega arith)) c.loop-item.invariant
