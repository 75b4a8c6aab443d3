use Rattle.std.proofs.lemmas.Result.{on_ok_weaker}
use Rattle.uno_entities.specs.Entities.{item_of}
use Rattle.registry_text_model.specs.Canonical.{item_tokens}
use Rattle.idl_print.proofs.TokenLemmas.{none_listed, listed_written}
use Rattle.idl_print.proofs.value.push_items.Goals as goal

pub returns-in_default : goal.returns-in_default
returns-in_default c = none_listed item_of item_tokens c.args.items.now c.args.text.now.items c.in_default.len_below

pub returns : goal.returns
returns c = on_ok_weaker _ (listed_written item_of item_tokens c.args.items.now c.first-item.result _ _ _ c.in-len1-up.len_at_least c.first-item.is c.in_ok-push_item.ensures) c.push_other_items.ensures
