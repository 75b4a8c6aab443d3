use Rattle.std.proofs.Common.{◌≡◌, ◌++◌, map, take, codes, ◌∷◌}
use Rattle.std.specs.List.{flat_map}
use Rattle.uno_entities.specs.Entities.{item_of}
use Rattle.registry_text_model.specs.Canonical.{item_tokens}
use Rattle.idl_print.specs.Tokens.{followed}
use Rattle.idl_print.proofs.value.push_other_items.Given as goal

abbrev pub invariant-loop-item : goal.invariant-loop-item
invariant-loop-item l = l.text.items ≡ l.fn.text.items ++ followed (flat_map (λ i. codes "," ∷ item_tokens i) (map item_of (take l.item-index l.items)))
