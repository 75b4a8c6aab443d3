use Rattle.std.proofs.Common.{◌++◌, sym, append-nil}
use Rattle.idl_meaning_model.specs.Uses.{type_paths, value_paths}
use Rattle.idl_trees.specs.Members.{constant_of}
use Rattle.idl_names.specs.Used.{all_used_of, entities_used}
use Rattle.idl_names.proofs.UsedLemmas.{each_more}
use Rattle.idl_names.proofs.used.add_constants.Goals as goal

pub loop-constant-init : goal.loop-constant-init
loop-constant-init c = sym (append-nil (all_used_of c.args.used.now.items))

pub loop-constant-preserved : goal.loop-constant-preserved
loop-constant-preserved c =
    each_more constant_of (λ c. entities_used (type_paths c.type) ++ value_paths c.value) c.args.constants.now c.loop-constant.constant-index c.constant-item.result _ _ _ c.loop-constant-test.true c.constant-item.is c.loop-constant.invariant
    c.in_ok-add_constant.ensures
