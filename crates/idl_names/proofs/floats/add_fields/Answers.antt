use Rattle.std.proofs.Common.{sym, append-nil}
use Rattle.idl_trees.specs.Members.{fields_of}
use Rattle.idl_names.specs.Floats.{places_of}
use Rattle.idl_names.proofs.FloatLemmas.{each_type}
use Rattle.idl_names.proofs.floats.add_fields.Goals as goal

pub loop-field-init : goal.loop-field-init
loop-field-init c = sym (append-nil (places_of c.args.places.now.items))

pub loop-field-preserved : goal.loop-field-preserved
loop-field-preserved c =
    each_type fields_of (λ m. m.type) c.args.fields.now c.loop-field.field-index c.field-item.result _ _ _ c.loop-field-test.true c.field-item.is c.loop-field.invariant
    c.in_ok-add_type.ensures
