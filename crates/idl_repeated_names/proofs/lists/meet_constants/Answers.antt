use Rattle.std.proofs.Common.{List, [], ◌∷◌, ◌≤◌, length, map, arith}
use Rattle.idl_model.specs.Trees as tree
use Rattle.std.proofs.lemmas.List.{map-append}
use Rattle.idl_repeated_names.proofs.MeetingLemmas.{meets_all, meets_none, meets_on}
use Rattle.idl_repeated_names.specs.Meeting.{at_id}
use Rattle.idl_trees.specs.Members.{constant_of}
use Rattle.idl_repeated_names.proofs.lists.meet_constants.Goals as goal

pub loop-constant-init : goal.loop-constant-init
loop-constant-init c = meets_none c.args.twins.now

pub loop-constant-preserved : goal.loop-constant-preserved
loop-constant-preserved c =
    meets_on (λ (ys : List tree.Constant). map (λ (k : tree.Constant). at_id k.name) ys) (λ (k : tree.Constant). at_id k.name ∷ []) (λ ks k. map-append (λ (z : tree.Constant). at_id z.name) ks (k ∷ [])) constant_of c.args.constants.now c.loop-constant.constant-index c.constant-item.result c.args.twins.now c.loop-constant.twins
    c.meet_id.new.twins c.loop-constant-test.true c.constant-item.is c.loop-constant.invariant c.in_ok-meet_id.ensures

pub returns : goal.returns
returns c =
    let end : length c.args.constants.now ≤ c.loop-constant.constant-index = omega (arith, c.loop-constant-test.false) in
    meets_all (λ (ys : List tree.Constant). map (λ (k : tree.Constant). at_id k.name) ys) constant_of c.args.constants.now c.loop-constant.constant-index c.args.twins.now c.loop-constant.twins end c.loop-constant.invariant
