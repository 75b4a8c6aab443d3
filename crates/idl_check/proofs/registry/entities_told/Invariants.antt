use Rattle.std.proofs.Common.{◌≡◌, map, take}
use Rattle.idl_entities.specs.Telling.{entity_told}
use Rattle.uno_entities.specs.Entities.{entities_of}
use Rattle.idl_check.proofs.registry.entities_told.Given as goal

abbrev pub invariant-loop-meanings : goal.invariant-loop-meanings
invariant-loop-meanings g l = entities_of l.entities.items ≡ map entity_told (map g.M.Meanings.telling (take l.meanings-index l.all))
