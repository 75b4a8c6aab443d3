use Rattle.std.proofs.Common.{map, take}
use Rattle.idl_model.specs.Trees as tree
use Rattle.idl_repeated_names.specs.Meeting.{Meets, at_id}
use Rattle.idl_trees.specs.Members.{constructor_parameter_of}
use Rattle.idl_repeated_names.proofs.lists.meet_arguments.Given as goal

abbrev pub invariant-loop-argument : goal.invariant-loop-argument
invariant-loop-argument l = Meets l.fn.twins l.twins (map (λ (k : tree.ConstructorParameter). at_id k.name) (map constructor_parameter_of (take l.argument-index l.arguments)))
