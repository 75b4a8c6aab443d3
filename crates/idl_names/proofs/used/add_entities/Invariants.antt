use Rattle.std.proofs.Common.{◌≡◌, ◌++◌, map, take}
use Rattle.idl_trees.specs.Names.{path_of}
use Rattle.idl_names.specs.Used.{all_used_of, entities_used}
use Rattle.idl_names.proofs.used.add_entities.Given as goal

abbrev pub invariant-loop-path : goal.invariant-loop-path
invariant-loop-path l = all_used_of l.used.items ≡ all_used_of l.fn.used.items ++ entities_used (map path_of (take l.path-index l.paths))
