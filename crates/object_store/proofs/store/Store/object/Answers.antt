use Rattle.std.proofs.Common.{◌∙◌, ap, sym, Some, None, option_map}
use Rattle.object_store.specs.Rows.{object_rows, plain}
use Rattle.object_store.proofs.Living.{found_rows, is_found, rows_rise}
use Rattle.object_store.proofs.Keeping.{found_outside, at_none, rises_outside}
use Rattle.object_store.proofs.store.Store.object.Goals as goal

pub returns-in_err-object-clause-none : goal.returns-in_err-object-clause-none
returns-in_err-object-clause-none g c =
    let rows = object_rows c.self.inside.objects.entries in
    at_none c.from_residual.result (found_outside c.self.inside.made rows rows c.args.self.now c.self.view_is c.args.number None (found_rows c.args.number c.self.inside.objects.entries ∙ ap (option_map plain) (sym c.in_err-object.ensures.value)))

pub returns-clause-found : goal.returns-clause-found
returns-clause-found g c =
    let rows = object_rows c.self.inside.objects.entries in
    ap (option_map (λ o. o.behaviour)) (found_outside c.self.inside.made rows rows c.args.self.now c.self.view_is c.args.number _ (is_found c.self.inside.objects c.args.number c.in_ok-object.object.now c.in_ok-object.ensures.value))

pub returns-clause-fields : goal.returns-clause-fields
returns-clause-fields g c =
    let rows = object_rows c.self.inside.objects.entries in
    ap (option_map (λ o. o.fields)) (found_outside c.self.inside.made rows rows c.args.self.now c.self.view_is c.args.number _ (is_found c.self.inside.objects c.args.number c.in_ok-object.object.now c.in_ok-object.ensures.value)) ∙ ap Some (sym c.as_slice.ensures.value)

pub returns-in_err-object-clause-rises : goal.returns-in_err-object-clause-rises
returns-in_err-object-clause-rises g c = rises_outside c.self.inside.made (object_rows c.self.inside.objects.entries) (object_rows c.self.inside.objects.entries) c.args.self.now c.self.view_is (rows_rise c.self.inside.objects c.self.invariant.ordered)

pub returns-clause-rises : goal.returns-clause-rises
returns-clause-rises g c = rises_outside c.self.inside.made (object_rows c.self.inside.objects.entries) (object_rows c.self.inside.objects.entries) c.args.self.now c.self.view_is (rows_rise c.self.inside.objects c.self.invariant.ordered)
