use Rattle.std.proofs.Common.{◌≡◌, drop}
use Rattle.uno_entities.specs.Entities.{entities_of}
use Rattle.uno_model.specs.Registry.{find_entity}
use Rattle.idl_meant.proofs.kinds.entity_named.Given as goal

abbrev pub invariant-loop-entity : goal.invariant-loop-entity
invariant-loop-entity l = find_entity l.name (entities_of l.entities) ≡ find_entity l.name (entities_of (drop l.entity-index l.entities))
