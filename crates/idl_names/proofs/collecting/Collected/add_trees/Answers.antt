use Rattle.std.proofs.Common.{length, ◌≤◌, map, get_or, [], subst, arith}
use Rattle.std.proofs.lemmas.List.{take_all}
use Rattle.idl_meaning_model.specs.Declarations.{all_declared_in, declarations}
use Rattle.idl_model.specs.Trees.{defs}
use Rattle.idl_trees.specs.Trees.{def_of, tree_of}
use Rattle.idl_names.specs.Collected.{Adds}
use Rattle.idl_names.proofs.CollectedLemmas.{adds_no_trees, adds_tree, kept_low}
use Rattle.idl_names.proofs.collecting.Collected.add_trees.Goals as goal

pub loop-tree-init : goal.loop-tree-init
loop-tree-init c = adds_no_trees c.args.self.now

pub add_defs-requires : goal.add_defs-requires
add_defs-requires c = kept_low c.args.self.now.paths c.loop-tree.self.paths 0 c.loop-tree.invariant.kept c.requires.paths

pub loop-tree-preserved : goal.loop-tree-preserved
loop-tree-preserved c =
    adds_tree tree_of c.args.self.now c.loop-tree.self c.add_defs.new.self c.args.trees.now c.loop-tree.tree-index c.tree-item.result c.requires.paths c.requires.outermost
    c.loop-tree-test.true c.tree-item.is c.loop-tree.invariant
    (subst (λ ds. Adds c.loop-tree.self (all_declared_in (get_or c.loop-tree.self.paths 0 []) (defs (map def_of ds))) c.add_defs.new.self) c.as_slice.ensures.value c.in_ok-add_defs.ensures)

pub returns : goal.returns
returns c =
    let end : length c.args.trees.now ≤ c.loop-tree.tree-index = omega (arith, c.loop-tree-test.false) in
    subst (λ ts. Adds c.args.self.now (declarations (map tree_of ts)) c.loop-tree.self) (take_all c.loop-tree.tree-index c.args.trees.now end) c.loop-tree.invariant
