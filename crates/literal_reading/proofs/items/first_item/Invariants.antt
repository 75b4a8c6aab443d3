use Rattle.std.proofs.Common.{◌≡◌, map, drop}
use Rattle.literal_model.specs.Literals.{first_item}
use Rattle.uno_entities.specs.Entities.{item_of}
use Rattle.literal_reading.proofs.items.first_item.Given as goal

abbrev pub invariant-loop-item : goal.invariant-loop-item
invariant-loop-item l = first_item (map item_of (drop l.item-index l.items)) l.number ≡ first_item (map item_of l.items) l.number
