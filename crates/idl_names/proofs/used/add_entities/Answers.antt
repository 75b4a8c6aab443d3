use Rattle.std.proofs.Common.{sym, append-nil}
use Rattle.idl_meaning_model.specs.Uses.{an_entity}
use Rattle.idl_trees.specs.Names.{path_of}
use Rattle.idl_names.specs.Used.{all_used_of}
use Rattle.idl_names.proofs.UsedLemmas.{each_one}
use Rattle.idl_names.proofs.used.add_entities.Goals as goal

pub loop-path-init : goal.loop-path-init
loop-path-init c = sym (append-nil (all_used_of c.args.used.now.items))

pub loop-path-preserved : goal.loop-path-preserved
loop-path-preserved c =
    each_one an_entity path_of c.args.paths.now c.loop-path.path-index c.path-item.result _ _ _ c.loop-path-test.true c.path-item.is c.loop-path.invariant c.in_ok-add_entity.ensures
