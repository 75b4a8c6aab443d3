use Rattle.std.specs.Prelude.{◌≡◌, map, take}
use Rattle.uno_entities.specs.Entities.{item_of}
use Rattle.uno_entities.proofs.entity_copies.copy_enum.Given as goal

abbrev pub invariant-loop-item : goal.invariant-loop-item
invariant-loop-item l = map item_of l.copies.items ≡ map item_of (take l.item-index l.items)
