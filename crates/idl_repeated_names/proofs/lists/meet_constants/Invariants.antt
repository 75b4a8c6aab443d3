use Rattle.std.proofs.Common.{map, take}
use Rattle.idl_model.specs.Trees as tree
use Rattle.idl_repeated_names.specs.Meeting.{Meets, at_id}
use Rattle.idl_trees.specs.Members.{constant_of}
use Rattle.idl_repeated_names.proofs.lists.meet_constants.Given as goal

abbrev pub invariant-loop-constant : goal.invariant-loop-constant
invariant-loop-constant l = Meets l.fn.twins l.twins (map (λ (k : tree.Constant). at_id k.name) (map constant_of (take l.constant-index l.constants)))
