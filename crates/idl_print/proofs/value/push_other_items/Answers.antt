use Rattle.std.proofs.Common.{sym, codes, ◌∷◌}
use Rattle.uno_entities.specs.Entities.{item_of}
use Rattle.registry_text_model.specs.Canonical.{item_tokens}
use Rattle.idl_print.proofs.TokenLemmas.{each_more, no_tokens}
use Rattle.idl_print.proofs.value.push_other_items.Goals as goal

pub loop-item-init : goal.loop-item-init
loop-item-init c = sym (no_tokens c.args.text.now.items)

pub loop-item-preserved : goal.loop-item-preserved
loop-item-preserved c = each_more c.args.items.now c.loop-item.item-index c.item-item.result _ _ _ item_of (λ i. codes "," ∷ item_tokens i) c.loop-item-test.true c.item-item.is c.loop-item.invariant c.in_ok-push_other_item.ensures
