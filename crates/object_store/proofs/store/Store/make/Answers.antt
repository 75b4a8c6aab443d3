use Rattle.std.proofs.Common.{refl, ap, arith}
use Rattle.object_store.specs.Rows.{object_rows}
use Rattle.object_store.proofs.Living.{rows_put, rows_rise}
use Rattle.object_store.proofs.Keeping.{kept_made, made_outside, back_outside}
use Rattle.object_store.proofs.store.Store.make.Goals as goal

pub invariant_of-self-2 : goal.invariant_of-self-2
invariant_of-self-2 g c =
    let few = ap (λ s. s.made) c.self.view_is in
    kept_made c.self.inside.objects c.insert.new.self c.self.inside.marks c.self.inside.made c.self.invariant (omega (arith, few, c.requires)) _ c.in_ok-insert.ensures.ordered refl
    (rows_put c.self.inside.objects c.insert.new.self c.self.invariant.ordered c.in_ok-insert.ensures.ordered _ _ c.in_ok-insert.ensures.updates)
    c.make_room.new.self c.make_room.ensures.same (let room = c.in_ok-make_room.ensures.room in omega (arith, room, c.from.ensures))

pub returns-clause-made : goal.returns-clause-made
returns-clause-made g c =
    made_outside c.self.inside.made (object_rows c.self.inside.objects.entries) (object_rows c.insert.new.self.entries) c.args.self.now c.self.view_is c.args.behaviour c.args.fields.items
    (rows_put c.self.inside.objects c.insert.new.self c.self.invariant.ordered c.in_ok-insert.ensures.ordered _ _ c.in_ok-insert.ensures.updates)

pub returns-clause-back : goal.returns-clause-back
returns-clause-back g c =
    back_outside c.self.inside.made (object_rows c.self.inside.objects.entries) (object_rows c.insert.new.self.entries) c.args.self.now c.self.view_is _
    (rows_rise c.self.inside.objects c.self.invariant.ordered) (c.self.invariant.given _ (omega arith))
    (rows_put c.self.inside.objects c.insert.new.self c.self.invariant.ordered c.in_ok-insert.ensures.ordered _ _ c.in_ok-insert.ensures.updates)
