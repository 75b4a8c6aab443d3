use Rattle.std.proofs.Common.{◌≡◌, ◌++◌, map, take}
use Rattle.std.specs.List.{flat_map}
use Rattle.std.specs.Option.{option_to_list}
use Rattle.idl_meaning_model.specs.Uses.{value_paths}
use Rattle.idl_trees.specs.Members.{item_of}
use Rattle.idl_names.specs.Used.{all_used_of}
use Rattle.idl_names.proofs.used.add_items.Given as goal

abbrev pub invariant-loop-item : goal.invariant-loop-item
invariant-loop-item l = all_used_of l.used.items ≡ all_used_of l.fn.used.items ++ flat_map (λ i. flat_map value_paths (option_to_list i.value)) (map item_of (take l.item-index l.items))
