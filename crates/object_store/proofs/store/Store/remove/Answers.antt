use Rattle.std.proofs.Common.{false, set, ◌∙◌, ap, sym, subst, None, IsSome, arith}
use Rattle.std.specs.FinMap.{find}
use Rattle.std.specs.Ordering.{nat_cmp}
use Rattle.object_store.specs.Rows.{object_rows}
use Rattle.object_store.proofs.Living.{missing, is_found, is_one, found_after, rows_without}
use Rattle.object_store.proofs.Keeping.{kept_turned, removed_outside}
use Rattle.object_store.proofs.store.Store.remove.Goals as goal

pub unreachable-requires : goal.unreachable-requires
unreachable-requires g c = missing c.self.inside.objects c.args.number (subst (λ s. IsSome (find nat_cmp c.args.number s.rows)) (sym c.self.view_is) c.requires) (sym c.in_default.is ∙ c.remove.ensures.value)

pub clear-requires : goal.clear-requires
clear-requires g c =
    let room = c.self.invariant.room c.args.number _ (is_found c.self.inside.objects c.args.number c.in-Some.object c.in-Some.ensures.value) in
    omega (arith, room, c.from.ensures)

pub invariant_of-self : goal.invariant_of-self
invariant_of-self g c =
    kept_turned c.self.inside.objects c.remove.new.self c.self.inside.marks c.self.inside.made c.self.invariant c.args.number None c.remove.ensures.ordered _
    (is_found c.self.inside.objects c.args.number c.in-Some.object c.in-Some.ensures.value)
    (found_after c.self.inside.objects c.remove.new.self c.self.invariant.ordered c.remove.ensures.ordered c.args.number None c.remove.ensures.updates) c.clear.new.self (c.clear.ensures ∙ ap (λ k. set c.self.inside.marks k false) c.from.ensures)

pub returns-clause-was : goal.returns-clause-was
returns-clause-was g c = λ o is. ap (λ o. o.fields) (is_one c.self.inside.objects c.args.number c.in-Some.object o c.in-Some.ensures.value (ap (λ s. find nat_cmp c.args.number s.rows) c.self.view_is ∙ is))

pub returns-clause-removed : goal.returns-clause-removed
returns-clause-removed g c =
    removed_outside c.self.inside.made (object_rows c.self.inside.objects.entries) (object_rows c.remove.new.self.entries) c.args.self.now c.self.view_is c.args.number
    (rows_without c.self.inside.objects c.remove.new.self c.self.invariant.ordered c.remove.ensures.ordered c.args.number c.remove.ensures.updates)
