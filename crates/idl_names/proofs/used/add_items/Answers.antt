use Rattle.std.proofs.Common.{sym, append-nil}
use Rattle.std.specs.List.{flat_map}
use Rattle.std.specs.Option.{option_to_list}
use Rattle.idl_meaning_model.specs.Uses.{value_paths}
use Rattle.idl_trees.specs.Members.{item_of}
use Rattle.idl_names.specs.Used.{all_used_of}
use Rattle.idl_names.proofs.UsedLemmas.{each_more}
use Rattle.idl_names.proofs.used.add_items.Goals as goal

pub loop-item-init : goal.loop-item-init
loop-item-init c = sym (append-nil (all_used_of c.args.used.now.items))

pub loop-item-preserved : goal.loop-item-preserved
loop-item-preserved c =
    each_more item_of (λ i. flat_map value_paths (option_to_list i.value)) c.args.items.now c.loop-item.item-index c.item-item.result _ _ _ c.loop-item-test.true c.item-item.is c.loop-item.invariant
    c.in_ok-add_item.ensures
