use Rattle.std.proofs.Common.{◌≡◌, ◌++◌, map, take}
use Rattle.std.specs.List.{flat_map}
use Rattle.idl_meaning_model.specs.Uses.{type_paths, value_paths}
use Rattle.idl_trees.specs.Members.{constant_of}
use Rattle.idl_names.specs.Used.{all_used_of, entities_used}
use Rattle.idl_names.proofs.used.add_constants.Given as goal

abbrev pub invariant-loop-constant : goal.invariant-loop-constant
invariant-loop-constant l = all_used_of l.used.items ≡ all_used_of l.fn.used.items ++ flat_map (λ c. entities_used (type_paths c.type) ++ value_paths c.value) (map constant_of (take l.constant-index l.constants))
