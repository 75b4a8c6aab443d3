use Rattle.std.specs.Prelude.{◌≡◌, map, take}
use Rattle.uno_entities.specs.Entities.{entity_of}
use Rattle.uno_entities.proofs.entity_copies.copy_entities.Given as goal

abbrev pub invariant-loop-entity : goal.invariant-loop-entity
invariant-loop-entity l = map entity_of l.copies.items ≡ map entity_of (take l.entity-index l.entities)
