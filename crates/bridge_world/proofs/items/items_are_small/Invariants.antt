use Rattle.std.specs.List.{AllByRecursion}
use Rattle.std.specs.Prelude.{drop, map}
use Rattle.bridge_laws.specs.Texts.{HasSmallNumber}
use Rattle.uno_entities.specs.Entities.{item_of}
use Rattle.bridge_world.proofs.items.items_are_small.Given as goal

abbrev pub invariant-loop-item : goal.invariant-loop-item
invariant-loop-item l = AllByRecursion HasSmallNumber (map item_of (drop l.item-index l.items)) → AllByRecursion HasSmallNumber (map item_of l.items)
