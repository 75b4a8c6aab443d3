use Rattle.std.proofs.Common.{map, take}
use Rattle.idl_compiled_model.specs.Compiling.{AreRead}
use Rattle.idl_trees.specs.Trees as plain
use Rattle.idl_compile.proofs.reading.trees_of.Given as goal

abbrev pub invariant-loop-text : goal.invariant-loop-text
invariant-loop-text l = AreRead 0 (map (λ text. text.now) (take l.text-index l.files)) (plain.trees_of l.trees.items)
