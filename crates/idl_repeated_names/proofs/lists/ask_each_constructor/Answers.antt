use Rattle.std.proofs.Common.{[], ◌∷◌, ◌≤◌, length, map, subst, arith}
use Rattle.idl_model.specs.Trees as tree
use Rattle.idl_repeated_names.proofs.MeetingLemmas.{asks_all, asks_none, asks_on}
use Rattle.idl_repeated_names.specs.Meeting.{Asks, arguments_named, at_id}
use Rattle.idl_trees.specs.Members.{constructor_of, constructor_parameter_of}
use Rattle.idl_repeated_names.proofs.lists.ask_each_constructor.Goals as goal

pub loop-constructor-init : goal.loop-constructor-init
loop-constructor-init c = asks_none c.args.twins.now

pub loop-constructor-preserved : goal.loop-constructor-preserved
loop-constructor-preserved c =
    asks_on arguments_named constructor_of c.args.constructors.now c.loop-constructor.constructor-index c.constructor-item.result c.args.twins.now c.loop-constructor.twins c.ask_arguments.new.twins c.loop-constructor-test.true c.constructor-item.is
    c.loop-constructor.invariant (subst (λ ps. Asks c.loop-constructor.twins c.ask_arguments.new.twins (map (λ (p : tree.ConstructorParameter). at_id p.name) (map constructor_parameter_of ps) ∷ []))
    c.as_slice.ensures.value c.in_ok-ask_arguments.ensures)

pub returns : goal.returns
returns c =
    let end : length c.args.constructors.now ≤ c.loop-constructor.constructor-index = omega (arith, c.loop-constructor-test.false) in
    asks_all arguments_named constructor_of c.args.constructors.now c.loop-constructor.constructor-index c.args.twins.now c.loop-constructor.twins end c.loop-constructor.invariant
