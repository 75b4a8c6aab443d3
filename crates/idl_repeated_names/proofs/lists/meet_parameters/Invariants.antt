use Rattle.std.proofs.Common.{map, take}
use Rattle.idl_model.specs.Trees as tree
use Rattle.idl_repeated_names.specs.Meeting.{Meets, at_id}
use Rattle.idl_trees.specs.Members.{parameter_of}
use Rattle.idl_repeated_names.proofs.lists.meet_parameters.Given as goal

abbrev pub invariant-loop-parameter : goal.invariant-loop-parameter
invariant-loop-parameter l = Meets l.fn.twins l.twins (map (λ (k : tree.Parameter). at_id k.name) (map parameter_of (take l.parameter-index l.parameters)))
