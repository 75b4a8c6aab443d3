use Rattle.std.proofs.Common.{◌∷◌, [], append-nil, map, sym}
use Rattle.idl_model.specs.Trees as tree
use Rattle.idl_places.proofs.Steps.{told_behind}
use Rattle.idl_places.specs.Places.{places_of}
use Rattle.idl_trees.specs.Members.{constant_of}
use Rattle.idl_joint_places.proofs.LoopLemmas.{mapped_tells}
use Rattle.idl_joint_places.proofs.circles.add_constant_places.Goals as goal

pub loop-constant-init : goal.loop-constant-init
loop-constant-init c = sym (append-nil (places_of c.args.places.now.items))

pub loop-constant-preserved : goal.loop-constant-preserved
loop-constant-preserved c =
    told_behind (map (λ (k : tree.Constant). k.name.place)) (λ k. k.name.place ∷ []) (mapped_tells (λ (k : tree.Constant). k.name.place)) constant_of c.args.constants.now c.loop-constant.constant-index c.constant-item.result _ _ _
    c.loop-constant-test.true c.constant-item.is c.loop-constant.invariant c.in_ok-add_place_of.ensures
