use Rattle.std.proofs.Common.{rules, ◌∙◌, ap}
use Rattle.std.specs.FinMap.{put}
use Rattle.std.specs.Ordering.{nat_cmp}
use Rattle.object_store.specs.Rows.{object_rows}
use Rattle.object_store.proofs.Living.{rows_put, is_one, missing}
use Rattle.object_store.proofs.objects.replace_fields.Goals as goal

pub unreachable-requires : goal.unreachable-requires
unreachable-requires g c = missing c.args.objects.now c.args.number c.requires.there c.in_default.ensures.value

pub returns-clause-was : goal.returns-clause-was
returns-clause-was g c = λ o is.
    ap (λ fields. fields.items) c.replace.ensures.value
    ∙ ap (λ o. o.fields) (is_one c.args.objects.now c.args.number c.in-Some.object.now o c.in-Some.ensures.value is)

pub returns-clause-set : goal.returns-clause-set
returns-clause-set g c = λ o is.
    let one = is_one c.args.objects.now c.args.number c.in-Some.object.now o c.in-Some.ensures.value is in
    let after = c.replace.ensures.after in
    let new = record c.in-Some.object.now { fields = c.replace.new.dest } in
    rows_put c.args.objects.now (c.get_mut.follows.lender new) c.requires.ordered (c.get_mut.follows.holds new).4 c.args.number new ((c.get_mut.follows.holds new).3 (search rules))
    ∙ (λ i. put nat_cmp c.args.number (record (one i) { fields = (after i).items }) (object_rows c.args.objects.now.entries))
