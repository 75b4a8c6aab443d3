use Rattle.idl_trees.specs.Members.{item_of}
use Rattle.idl_values.specs.Origins.{origin_of}
use Rattle.idl_values.proofs.LoopLemmas.{first_behind_none, next_behind, next_item, no_items}
use Rattle.idl_values.proofs.origins.add_items.Goals as goal

pub loop-item-init : goal.loop-item-init
loop-item-init c = record { so_far = no_items c.args.origins.now.items; behind = first_behind_none }

pub loop-item-preserved : goal.loop-item-preserved
loop-item-preserved c = record {
  so_far =
      next_item item_of c.args.items.now c.loop-item.item-index c.item-item.result c.args.origins.now.items c.loop-item.origins.items c.add_item.new.origins.items (origin_of c.loop-item.unwritten)
      c.loop-item-test.true c.item-item.is c.loop-item.invariant.so_far c.loop-item.invariant.behind c.in_ok-add_item.ensures;
  behind = next_behind item_of c.args.items.now c.loop-item.item-index c.item-item.result c.loop-item-test.true c.item-item.is;
}
