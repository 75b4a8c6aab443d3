use Rattle.std.proofs.Common.{◌≡◌, ◌&&◌, drop, map}
use Rattle.std.specs.List.{list_any}
use Rattle.std.specs.Str.{bytes_eq}
use Rattle.literal_model.specs.Literals.{first_item}
use Rattle.literal_model.specs.Shapes.{is_some_name}
use Rattle.uno_entities.specs.Entities.{item_of}
use Rattle.literal_reading.proofs.scan.words.is_first_name.Given as goal

abbrev pub invariant-loop-item : goal.invariant-loop-item
invariant-loop-item l =
    list_any (λ i. bytes_eq i.name l.word && is_some_name (first_item (map item_of l.items) i.number) l.word) (map item_of (drop l.item-index l.items))
    ≡ list_any (λ i. bytes_eq i.name l.word && is_some_name (first_item (map item_of l.items) i.number) l.word) (map item_of l.items)
