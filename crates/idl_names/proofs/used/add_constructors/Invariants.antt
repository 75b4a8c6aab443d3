use Rattle.std.proofs.Common.{◌≡◌, ◌++◌, map, take}
use Rattle.std.specs.List.{flat_map}
use Rattle.idl_meaning_model.specs.Uses.{constructor_paths}
use Rattle.idl_trees.specs.Members.{constructor_of}
use Rattle.idl_names.specs.Used.{all_used_of, entities_used}
use Rattle.idl_names.proofs.used.add_constructors.Given as goal

abbrev pub invariant-loop-constructor : goal.invariant-loop-constructor
invariant-loop-constructor l = all_used_of l.used.items ≡ all_used_of l.fn.used.items ++ entities_used (flat_map constructor_paths (map constructor_of (take l.constructor-index l.constructors)))
