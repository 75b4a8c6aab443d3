use Rattle.std.proofs.Common.{sym, append-nil}
use Rattle.idl_meaning_model.specs.Uses.{an_entity, type_paths}
use Rattle.idl_trees.specs.Members.{constructor_parameter_of}
use Rattle.idl_names.specs.Used.{all_used_of}
use Rattle.idl_names.proofs.UsedLemmas.{each_path}
use Rattle.idl_names.proofs.used.add_constructor_parameters.Goals as goal

pub loop-parameter-init : goal.loop-parameter-init
loop-parameter-init c = sym (append-nil (all_used_of c.args.used.now.items))

pub loop-parameter-preserved : goal.loop-parameter-preserved
loop-parameter-preserved c =
    each_path an_entity constructor_parameter_of (λ p. type_paths p.type) c.args.parameters.now c.loop-parameter.parameter-index c.parameter-item.result _ _ _ c.loop-parameter-test.true c.parameter-item.is c.loop-parameter.invariant
    c.in_ok-add_type.ensures
