use Rattle.std.proofs.Common.{List, [], ◌∷◌, ◌≤◌, length, map, arith}
use Rattle.idl_model.specs.Trees as tree
use Rattle.std.proofs.lemmas.List.{map-append}
use Rattle.idl_repeated_names.proofs.MeetingLemmas.{meets_all, meets_none, meets_on}
use Rattle.idl_repeated_names.specs.Meeting.{at_id}
use Rattle.idl_trees.specs.Members.{constructor_parameter_of}
use Rattle.idl_repeated_names.proofs.lists.meet_arguments.Goals as goal

pub loop-argument-init : goal.loop-argument-init
loop-argument-init c = meets_none c.args.twins.now

pub loop-argument-preserved : goal.loop-argument-preserved
loop-argument-preserved c =
    meets_on (λ (ys : List tree.ConstructorParameter). map (λ (k : tree.ConstructorParameter). at_id k.name) ys) (λ (k : tree.ConstructorParameter). at_id k.name ∷ []) (λ ks k. map-append (λ (z : tree.ConstructorParameter). at_id z.name) ks (k ∷ [])) constructor_parameter_of c.args.arguments.now c.loop-argument.argument-index c.argument-item.result c.args.twins.now c.loop-argument.twins
    c.meet_id.new.twins c.loop-argument-test.true c.argument-item.is c.loop-argument.invariant c.in_ok-meet_id.ensures

pub returns : goal.returns
returns c =
    let end : length c.args.arguments.now ≤ c.loop-argument.argument-index = omega (arith, c.loop-argument-test.false) in
    meets_all (λ (ys : List tree.ConstructorParameter). map (λ (k : tree.ConstructorParameter). at_id k.name) ys) constructor_parameter_of c.args.arguments.now c.loop-argument.argument-index c.args.twins.now c.loop-argument.twins end c.loop-argument.invariant
