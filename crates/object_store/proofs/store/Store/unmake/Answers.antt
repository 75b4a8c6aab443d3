use Rattle.std.proofs.Common.{false, cond, set, ◌∙◌, ap, sym, None, option_map, ◌<◌, arith}
use Rattle.std.specs.FinMap.{find}
use Rattle.std.specs.Ordering.{nat_cmp}
use Rattle.table_model.specs.Objects as model
use Rattle.object_store.specs.Rows.{object_rows, plain}
use Rattle.object_store.proofs.Living.{found_rows, is_found, found_after, rows_without}
use Rattle.object_store.proofs.Keeping.{found_outside, kept_turned, kept_unmade, unmade_outside, none_made}
use Rattle.object_store.proofs.Marking.{with_itself}
use Rattle.object_store.proofs.store.Store.unmake.Goals as goal

pub returns-in_err-object-clause-none : goal.returns-in_err-object-clause-none
returns-in_err-object-clause-none g c =
    let rows = object_rows c.self.inside.objects.entries in
    none_made (0 < c.args.self.now.made) c.from_residual.result
    (ap (λ n. model.object n c.args.self.now) (sym (ap (λ s. s.made) c.self.view_is))
    ∙ found_outside c.self.inside.made rows rows c.args.self.now c.self.view_is c.self.inside.made None (found_rows c.self.inside.made c.self.inside.objects.entries ∙ ap (option_map plain) (sym c.in_err-object.ensures.value)))

pub clear-requires : goal.clear-requires
clear-requires g c =
    let room = c.self.invariant.room c.self.inside.made _ (is_found c.self.inside.objects c.self.inside.made c.in_ok-object.object c.in_ok-object.ensures.value) in
    omega (arith, room, c.from.ensures)

pub invariant_of-self-2 : goal.invariant_of-self-2
invariant_of-self-2 g c =
    let made = c.self.inside.made in
    let found = found_after c.self.inside.objects c.remove.new.self c.self.invariant.ordered c.remove.ensures.ordered made None c.remove.ensures.updates in
    kept_unmade c.remove.new.self c.clear.new.self made
    (kept_turned c.self.inside.objects c.remove.new.self c.self.inside.marks made c.self.invariant made None c.remove.ensures.ordered _ (is_found c.self.inside.objects made c.in_ok-object.object c.in_ok-object.ensures.value) found c.clear.new.self
    (c.clear.ensures ∙ ap (λ k. set c.self.inside.marks k false) c.from.ensures))
    (found made ∙ ap (λ b. cond b None (find nat_cmp made (object_rows c.self.inside.objects.entries))) (with_itself made))

pub returns-clause-was : goal.returns-clause-was
returns-clause-was g c =
    let rows = object_rows c.self.inside.objects.entries in
    ap (λ n. option_map (λ o. o.fields) (model.object n c.args.self.now)) (sym (ap (λ s. s.made) c.self.view_is))
    ∙ ap (option_map (λ o. o.fields)) (found_outside c.self.inside.made rows rows c.args.self.now c.self.view_is c.self.inside.made _ (is_found c.self.inside.objects c.self.inside.made c.in_ok-object.object c.in_ok-object.ensures.value))

pub returns-clause-unmade : goal.returns-clause-unmade
returns-clause-unmade g c =
    unmade_outside c.self.inside.made (object_rows c.self.inside.objects.entries) (object_rows c.remove.new.self.entries) c.args.self.now c.self.view_is
    (rows_without c.self.inside.objects c.remove.new.self c.self.invariant.ordered c.remove.ensures.ordered c.self.inside.made c.remove.ensures.updates)
