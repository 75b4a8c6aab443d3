use Rattle.std.proofs.Common.{refl}
use Rattle.object_store.specs.Rows.{object_rows}
use Rattle.object_store.proofs.Keeping.{kept_unturned, the_one, lives_inside}
use Rattle.object_store.proofs.store.Store.replace_fields.Goals as goal

pub invariant_of-self : goal.invariant_of-self
invariant_of-self g c =
    let rows = object_rows c.self.inside.objects.entries in
    let one = the_one _ (lives_inside c.self.inside.made rows rows c.args.self.now c.self.view_is c.args.number c.requires) in
    kept_unturned c.self.inside.objects c.replace_fields.new.objects c.self.inside.marks c.self.inside.made c.self.invariant c.args.number _ c.replace_fields.ensures.ordered one.0 one.1 refl (c.replace_fields.ensures.set one.0 one.1)
