use Rattle.std.specs.List.{AllByRecursion}
use Rattle.std.specs.Prelude.{drop, map}
use Rattle.bridge_laws.specs.Texts.{HasSmallItems}
use Rattle.uno_entities.specs.Entities.{entity_of}
use Rattle.bridge_world.proofs.items.entities_are_small.Given as goal

abbrev pub invariant-loop-entity : goal.invariant-loop-entity
invariant-loop-entity l = AllByRecursion HasSmallItems (map entity_of (drop l.entity-index l.entities)) → AllByRecursion HasSmallItems (map entity_of l.entities)
