use Rattle.std.proofs.Common.{List, [], ◌∷◌, ◌≤◌, length, map, arith}
use Rattle.idl_model.specs.Trees as tree
use Rattle.std.proofs.lemmas.List.{map-append}
use Rattle.idl_repeated_names.proofs.MeetingLemmas.{meets_all, meets_none, meets_on}
use Rattle.idl_repeated_names.specs.Meeting.{at_id}
use Rattle.idl_trees.specs.Members.{item_of}
use Rattle.idl_repeated_names.proofs.lists.meet_items.Goals as goal

pub loop-item-init : goal.loop-item-init
loop-item-init c = meets_none c.args.twins.now

pub loop-item-preserved : goal.loop-item-preserved
loop-item-preserved c =
    meets_on (λ (ys : List tree.Item). map (λ (k : tree.Item). at_id k.name) ys) (λ (k : tree.Item). at_id k.name ∷ []) (λ ks k. map-append (λ (z : tree.Item). at_id z.name) ks (k ∷ [])) item_of c.args.items.now c.loop-item.item-index c.item-item.result c.args.twins.now c.loop-item.twins
    c.meet_id.new.twins c.loop-item-test.true c.item-item.is c.loop-item.invariant c.in_ok-meet_id.ensures

pub returns : goal.returns
returns c =
    let end : length c.args.items.now ≤ c.loop-item.item-index = omega (arith, c.loop-item-test.false) in
    meets_all (λ (ys : List tree.Item). map (λ (k : tree.Item). at_id k.name) ys) item_of c.args.items.now c.loop-item.item-index c.args.twins.now c.loop-item.twins end c.loop-item.invariant
