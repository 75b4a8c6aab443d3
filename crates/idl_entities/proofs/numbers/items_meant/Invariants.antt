use Rattle.std.proofs.Common.{◌≡◌, map}
use Rattle.idl_entities.proofs.NumberLemmas.{items_before}
use Rattle.idl_trees.specs.Members as plain
use Rattle.uno_entities.specs.Entities.{item_of}
use Rattle.idl_entities.proofs.numbers.items_meant.Given as goal

abbrev pub invariant-loop-item : goal.invariant-loop-item
invariant-loop-item g l = record {
  at : l.place ≡ l.item-index;
  so_far : map item_of l.meant.items ≡ items_before (g.M.Meanings.telling l.meanings) (map plain.item_of l.items) l.item-index;
}
