use Rattle.std.proofs.Common.{◌≡◌, drop}
use Rattle.std.specs.List.{list_all}
use Rattle.uno_model.specs.Sound.{items_differ}
use Rattle.uno_entities.specs.Entities.{entities_of}
use Rattle.entity_rules.proofs.sound.all_items_differ.Given as goal

abbrev pub invariant-loop-entity : goal.invariant-loop-entity
invariant-loop-entity l = list_all items_differ (entities_of (drop l.entity-index l.entities)) ≡ list_all items_differ (entities_of l.entities)
