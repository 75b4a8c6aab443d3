use Rattle.std.proofs.Common.{◌∷◌, [], append-nil, map, sym}
use Rattle.idl_model.specs.Trees as tree
use Rattle.idl_places.proofs.Steps.{told_behind}
use Rattle.idl_places.specs.Places.{places_of}
use Rattle.idl_trees.specs.Members.{item_of}
use Rattle.idl_joint_places.proofs.LoopLemmas.{mapped_tells}
use Rattle.idl_joint_places.proofs.circles.add_item_places.Goals as goal

pub loop-item-init : goal.loop-item-init
loop-item-init c = sym (append-nil (places_of c.args.places.now.items))

pub loop-item-preserved : goal.loop-item-preserved
loop-item-preserved c =
    told_behind (map (λ (k : tree.Item). k.name.place)) (λ k. k.name.place ∷ []) (mapped_tells (λ (k : tree.Item). k.name.place)) item_of c.args.items.now c.loop-item.item-index c.item-item.result _ _ _
    c.loop-item-test.true c.item-item.is c.loop-item.invariant c.in_ok-add_place_of.ensures
