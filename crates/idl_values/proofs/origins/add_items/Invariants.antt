use Rattle.std.proofs.Common.{◌≡◌, map, take}
use Rattle.idl_meaning_model.specs.Declarations.{first_item}
use Rattle.idl_trees.specs.Members.{item_of}
use Rattle.idl_values.specs.Origins.{AddsOrigins, item_origins, origin_behind, origin_of}
use Rattle.idl_values.proofs.origins.add_items.Given as goal

abbrev pub invariant-loop-item : goal.invariant-loop-item
invariant-loop-item l = record {
  so_far : AddsOrigins l.fn.origins.items (item_origins first_item (map item_of (take l.item-index l.items))) l.origins.items;
  behind : origin_of l.unwritten ≡ origin_behind first_item (map item_of (take l.item-index l.items));
}
