use Rattle.std.proofs.Common.{map, take}
use Rattle.idl_model.specs.Trees as tree
use Rattle.idl_repeated_names.specs.Meeting.{Meets, at_id}
use Rattle.idl_trees.specs.Members.{constructor_of}
use Rattle.idl_repeated_names.proofs.lists.meet_constructors.Given as goal

abbrev pub invariant-loop-constructor : goal.invariant-loop-constructor
invariant-loop-constructor l = Meets l.fn.twins l.twins (map (λ (k : tree.Constructor). at_id k.name) (map constructor_of (take l.constructor-index l.constructors)))
