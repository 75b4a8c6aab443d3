use Rattle.std.proofs.Common.{map, take}
use Rattle.idl_meaning_model.specs.Declarations.{declarations}
use Rattle.idl_trees.specs.Trees.{tree_of}
use Rattle.idl_names.specs.Collected.{Adds}
use Rattle.idl_names.proofs.collecting.Collected.add_trees.Given as goal

abbrev pub invariant-loop-tree : goal.invariant-loop-tree
invariant-loop-tree l = Adds l.fn.self (declarations (map tree_of (take l.tree-index l.trees))) l.self
