use Rattle.std.proofs.Common.{map, take}
use Rattle.idl_model.specs.Trees as tree
use Rattle.idl_repeated_names.specs.Meeting.{Meets, at_id}
use Rattle.idl_trees.specs.Members.{item_of}
use Rattle.idl_repeated_names.proofs.lists.meet_items.Given as goal

abbrev pub invariant-loop-item : goal.invariant-loop-item
invariant-loop-item l = Meets l.fn.twins l.twins (map (λ (k : tree.Item). at_id k.name) (map item_of (take l.item-index l.items)))
