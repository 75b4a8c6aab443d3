use Rattle.std.proofs.Common.{List, [], ◌∷◌, ◌≤◌, length, map, arith}
use Rattle.idl_model.specs.Trees as tree
use Rattle.std.proofs.lemmas.List.{map-append}
use Rattle.idl_repeated_names.proofs.MeetingLemmas.{meets_all, meets_none, meets_on}
use Rattle.idl_repeated_names.specs.Meeting.{at_id}
use Rattle.idl_trees.specs.Members.{parameter_of}
use Rattle.idl_repeated_names.proofs.lists.meet_parameters.Goals as goal

pub loop-parameter-init : goal.loop-parameter-init
loop-parameter-init c = meets_none c.args.twins.now

pub loop-parameter-preserved : goal.loop-parameter-preserved
loop-parameter-preserved c =
    meets_on (λ (ys : List tree.Parameter). map (λ (k : tree.Parameter). at_id k.name) ys) (λ (k : tree.Parameter). at_id k.name ∷ []) (λ ks k. map-append (λ (z : tree.Parameter). at_id z.name) ks (k ∷ [])) parameter_of c.args.parameters.now c.loop-parameter.parameter-index c.parameter-item.result c.args.twins.now c.loop-parameter.twins
    c.meet_id.new.twins c.loop-parameter-test.true c.parameter-item.is c.loop-parameter.invariant c.in_ok-meet_id.ensures

pub returns : goal.returns
returns c =
    let end : length c.args.parameters.now ≤ c.loop-parameter.parameter-index = omega (arith, c.loop-parameter-test.false) in
    meets_all (λ (ys : List tree.Parameter). map (λ (k : tree.Parameter). at_id k.name) ys) parameter_of c.args.parameters.now c.loop-parameter.parameter-index c.args.twins.now c.loop-parameter.twins end c.loop-parameter.invariant
