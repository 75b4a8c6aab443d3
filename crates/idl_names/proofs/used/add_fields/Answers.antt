use Rattle.std.proofs.Common.{sym, append-nil}
use Rattle.idl_meaning_model.specs.Uses.{an_entity, type_paths}
use Rattle.idl_trees.specs.Members.{fields_of}
use Rattle.idl_names.specs.Used.{all_used_of}
use Rattle.idl_names.proofs.UsedLemmas.{each_path}
use Rattle.idl_names.proofs.used.add_fields.Goals as goal

pub loop-field-init : goal.loop-field-init
loop-field-init c = sym (append-nil (all_used_of c.args.used.now.items))

pub loop-field-preserved : goal.loop-field-preserved
loop-field-preserved c =
    each_path an_entity fields_of (λ m. type_paths m.type) c.args.fields.now c.loop-field.field-index c.field-item.result _ _ _ c.loop-field-test.true c.field-item.is c.loop-field.invariant
    c.in_ok-add_type.ensures
