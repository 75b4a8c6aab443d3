use Rattle.std.proofs.Common.{refl}
use Rattle.object_store.specs.Rows.{object_rows}
use Rattle.object_store.proofs.Keeping.{kept_unturned, the_field, field_inside}
use Rattle.object_store.proofs.store.Store.set_field.Goals as goal

pub invariant_of-self : goal.invariant_of-self
invariant_of-self g c =
    let rows = object_rows c.self.inside.objects.entries in
    let one = the_field _ c.args.place (field_inside c.self.inside.made rows rows c.args.self.now c.self.view_is c.args.number c.args.place c.requires) in
    kept_unturned c.self.inside.objects c.set_field.new.objects c.self.inside.marks c.self.inside.made c.self.invariant c.args.number _ c.set_field.ensures.ordered one.0 one.1 refl (c.set_field.ensures.set one.0 one.1)
