use Rattle.std.proofs.Common.{map, arith}
use Rattle.idl_entities.proofs.NumberLemmas.{all_told, item_on}
use Rattle.idl_trees.specs.Members as plain
use Rattle.uno_entities.specs.Entities.{item_of}
use Rattle.idl_entities.proofs.numbers.items_meant.Goals as goal

pub loop-item-preserved : goal.loop-item-preserved
loop-item-preserved g c = record {
  at = omega (arith, c.loop-item.invariant.at);
  so_far = item_on (g.M.Meanings.telling c.args.meanings.now) plain.item_of c.args.items.now c.loop-item.item-index c.loop-item.place c.item-item.result
      c.loop-item.meant.items c.push.new.self.items c.in_ok-one.one c.requires c.loop-item.invariant.at c.loop-item-test.true c.item-item.is c.in_ok-one.ensures
      c.in_ok-push.ensures.items c.loop-item.invariant.so_far;
}

pub returns : goal.returns
returns g c =
    all_told (g.M.Meanings.telling c.args.meanings.now) plain.item_of c.args.items.now c.loop-item.item-index (map item_of c.loop-item.meant.items) (omega arith)
    c.loop-item.invariant.so_far
