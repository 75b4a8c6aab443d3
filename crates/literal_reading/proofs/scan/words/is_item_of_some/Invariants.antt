use Rattle.std.proofs.Common.{◌≡◌, drop, Some}
use Rattle.std.specs.List.{list_any}
use Rattle.uno_model.specs.Defaults.{items_of}
use Rattle.literal_model.specs.Shapes.{is_first_name}
use Rattle.uno_entities.specs.Entities.{entities_of}
use Rattle.literal_reading.proofs.scan.words.is_item_of_some.Given as goal

abbrev pub invariant-loop-entity : goal.invariant-loop-entity
invariant-loop-entity l =
    list_any (λ e. is_first_name (items_of (Some e)) l.word) (entities_of (drop l.entity-index l.entities)) ≡ list_any (λ e. is_first_name (items_of (Some e)) l.word) (entities_of l.entities)
