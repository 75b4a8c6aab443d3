use Rattle.std.proofs.Common.{List, [], ◌∷◌, ◌≤◌, length, map, arith}
use Rattle.idl_model.specs.Trees as tree
use Rattle.std.proofs.lemmas.List.{map-append}
use Rattle.idl_repeated_names.proofs.MeetingLemmas.{meets_all, meets_none, meets_on}
use Rattle.idl_repeated_names.specs.Meeting.{at_id}
use Rattle.idl_trees.specs.Names.{id_of}
use Rattle.idl_repeated_names.proofs.own.meet_line.Goals as goal

pub loop-name-init : goal.loop-name-init
loop-name-init c = meets_none c.args.twins.now

pub loop-name-preserved : goal.loop-name-preserved
loop-name-preserved c =
    meets_on (λ (ys : List tree.Id). map at_id ys) (λ (i : tree.Id). at_id i ∷ []) (λ is i. map-append at_id is (i ∷ [])) id_of c.args.names.now c.loop-name.name-index c.name-item.result c.args.twins.now c.loop-name.twins
    c.meet_id.new.twins c.loop-name-test.true c.name-item.is c.loop-name.invariant c.in_ok-meet_id.ensures

pub returns : goal.returns
returns c =
    let end : length c.args.names.now ≤ c.loop-name.name-index = omega (arith, c.loop-name-test.false) in
    meets_all (λ (ys : List tree.Id). map at_id ys) id_of c.args.names.now c.loop-name.name-index c.args.twins.now c.loop-name.twins end c.loop-name.invariant
