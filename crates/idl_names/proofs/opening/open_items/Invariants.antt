use Rattle.std.proofs.Common.{[], get_or, map, take}
use Rattle.idl_trees.specs.Members.{item_of}
use Rattle.idl_names.specs.Opened.{Numbers, behind_all}
use Rattle.idl_names.proofs.opening.open_items.Given as goal

abbrev pub invariant-loop-item : goal.invariant-loop-item
invariant-loop-item l =
    Numbers l.fn.paths l.fn.numbers.items (behind_all (get_or l.fn.paths l.owner []) (map (λ i. i.name) (map item_of (take l.item-index l.items)))) l.paths l.numbers.items
