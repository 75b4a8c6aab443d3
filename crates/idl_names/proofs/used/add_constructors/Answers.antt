use Rattle.std.proofs.Common.{sym, append-nil}
use Rattle.idl_meaning_model.specs.Uses.{an_entity, constructor_paths}
use Rattle.idl_trees.specs.Members.{constructor_of}
use Rattle.idl_names.specs.Used.{all_used_of}
use Rattle.idl_names.proofs.UsedLemmas.{each_path}
use Rattle.idl_names.proofs.used.add_constructors.Goals as goal

pub loop-constructor-init : goal.loop-constructor-init
loop-constructor-init c = sym (append-nil (all_used_of c.args.used.now.items))

pub loop-constructor-preserved : goal.loop-constructor-preserved
loop-constructor-preserved c =
    each_path an_entity constructor_of constructor_paths c.args.constructors.now c.loop-constructor.constructor-index c.constructor-item.result _ _ _ c.loop-constructor-test.true c.constructor-item.is c.loop-constructor.invariant
    c.in_ok-add_constructor.ensures
