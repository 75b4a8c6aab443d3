use Rattle.std.proofs.Common.{◌≡◌, ◌++◌, map, take}
use Rattle.uno_entities.specs.Entities.{item_of}
use Rattle.registry_text_model.specs.Lines.{item_line, text_of}
use Rattle.reg_text.proofs.parts.push_items.Given as goal

abbrev pub invariant-loop-item : goal.invariant-loop-item
invariant-loop-item l = l.text.items ≡ l.fn.text.items ++ text_of (map item_line (map item_of (take l.item-index l.items)))
