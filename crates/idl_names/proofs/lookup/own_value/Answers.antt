use Rattle.std.proofs.lemmas.Option.{slice_get_within}
use Rattle.idl_names.specs.Collected.{declared_of}
use Rattle.idl_names.specs.Opened.{own_path}
use Rattle.idl_names.proofs.LookupLemmas.{own_absolute, own_no_group, own_of_group}
use Rattle.idl_names.proofs.lookup.own_value.Goals as goal
use Rattle.idl_trees.specs.Names.{path_of}

pub returns-then-path : goal.returns-then-path
returns-then-path c = own_absolute c.args.paths.now c.args.marks.now (declared_of c.args.paths.now c.args.declared.now) (path_of c.args.path.now) c.if-path.true

pub returns-then-not-is_group : goal.returns-then-not-is_group
returns-then-not-is_group c =
    own_no_group c.args.paths.now c.args.marks.now (declared_of c.args.paths.now c.args.declared.now) (path_of c.args.path.now) c.is_group.result c.if-not-is_group.true c.is_group.ensures

pub marked_behind-requires : goal.marked_behind-requires
marked_behind-requires c = slice_get_within c.args.paths.now c.args.declared.now.path (own_path (declared_of c.args.paths.now c.args.declared.now)) c.requires.numbers.own

pub returns : goal.returns
returns c =
    own_of_group c.args.paths.now c.args.marks.now (declared_of c.args.paths.now c.args.declared.now) c.args.declared.now.path (path_of c.args.path.now) c.as_slice.result.now c.marked_behind.result
    c.is_group.result c.if-path.false c.if-not-is_group.false c.is_group.ensures c.requires.numbers.own c.as_slice.ensures.value c.requires.one c.marked_behind.ensures
