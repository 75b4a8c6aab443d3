use Rattle.std.proofs.Common.{List, [], ◌∷◌, ◌≤◌, length, map, arith}
use Rattle.idl_model.specs.Trees as tree
use Rattle.std.proofs.lemmas.List.{map-append}
use Rattle.idl_repeated_names.proofs.MeetingLemmas.{meets_all, meets_none, meets_on}
use Rattle.idl_repeated_names.specs.Meeting.{at_id}
use Rattle.idl_trees.specs.Members.{constructor_of}
use Rattle.idl_repeated_names.proofs.lists.meet_constructors.Goals as goal

pub loop-constructor-init : goal.loop-constructor-init
loop-constructor-init c = meets_none c.args.twins.now

pub loop-constructor-preserved : goal.loop-constructor-preserved
loop-constructor-preserved c =
    meets_on (λ (ys : List tree.Constructor). map (λ (k : tree.Constructor). at_id k.name) ys) (λ (k : tree.Constructor). at_id k.name ∷ []) (λ ks k. map-append (λ (z : tree.Constructor). at_id z.name) ks (k ∷ [])) constructor_of c.args.constructors.now c.loop-constructor.constructor-index c.constructor-item.result c.args.twins.now c.loop-constructor.twins
    c.meet_id.new.twins c.loop-constructor-test.true c.constructor-item.is c.loop-constructor.invariant c.in_ok-meet_id.ensures

pub returns : goal.returns
returns c =
    let end : length c.args.constructors.now ≤ c.loop-constructor.constructor-index = omega (arith, c.loop-constructor-test.false) in
    meets_all (λ (ys : List tree.Constructor). map (λ (k : tree.Constructor). at_id k.name) ys) constructor_of c.args.constructors.now c.loop-constructor.constructor-index c.args.twins.now c.loop-constructor.twins end c.loop-constructor.invariant
