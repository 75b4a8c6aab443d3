use Rattle.idl_names.proofs.LookupLemmas.{in_absolute, in_relative}
use Rattle.idl_names.proofs.lookup.named.Goals as goal
use Rattle.idl_trees.specs.Names.{path_of}

pub returns-then-path : goal.returns-then-path
returns-then-path c =
    in_absolute c.args.paths.now c.args.marks.now c.args.modules (path_of c.args.path.now) c.as_slice.result.now c.marked_behind.result c.requires.outermost c.if-path.true
    c.as_slice.ensures.value c.marked_behind.ensures

pub returns : goal.returns
returns c =
    in_relative c.args.paths.now c.args.marks.now c.args.modules (path_of c.args.path.now) c.as_slice-2.result.now c.named_outwards.result c.if-path.false
    c.as_slice-2.ensures.value c.named_outwards.ensures
