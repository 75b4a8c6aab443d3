use Rattle.std.proofs.Common.{◌≡◌, drop, map}
use Rattle.literal_model.specs.Readings.{number_named}
use Rattle.uno_entities.specs.Entities.{item_of}
use Rattle.literal_reading.proofs.single.item.number_named.Given as goal

abbrev pub invariant-loop-item : goal.invariant-loop-item
invariant-loop-item l = number_named (map item_of (drop l.item-index l.items)) l.word ≡ number_named (map item_of l.items) l.word
