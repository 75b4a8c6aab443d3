use Rattle.std.proofs.Common.{Some, set, ◌∙◌, ap, arith}
use Rattle.object_store.specs.Rows.{object_rows}
use Rattle.object_store.proofs.Keeping.{kept_turned, found_put, the_one, lives_inside}
use Rattle.object_store.proofs.store.Store.set_may_go.Goals as goal

pub turn-requires : goal.turn-requires
turn-requires g c =
    let rows = object_rows c.self.inside.objects.entries in
    let one = the_one _ (lives_inside c.self.inside.made rows rows c.args.self.now c.self.view_is c.args.number c.requires) in
    let room = c.self.invariant.room c.args.number one.0 one.1 in
    omega (arith, room, c.from.ensures)

pub invariant_of-self : goal.invariant_of-self
invariant_of-self g c =
    let rows = object_rows c.self.inside.objects.entries in
    let one = the_one _ (lives_inside c.self.inside.made rows rows c.args.self.now c.self.view_is c.args.number c.requires) in
    kept_turned c.self.inside.objects c.set_may_go.new.objects c.self.inside.marks c.self.inside.made c.self.invariant c.args.number (Some (record one.0 { may_go = c.args.may_go })) c.set_may_go.ensures.ordered one.0 one.1
    (found_put c.args.number _ rows (object_rows c.set_may_go.new.objects.entries) (c.set_may_go.ensures.set one.0 one.1)) c.turn.new.self
    (c.turn.ensures ∙ ap (λ k. set c.self.inside.marks k c.args.may_go) c.from.ensures)
