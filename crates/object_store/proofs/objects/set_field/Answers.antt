use Rattle.std.proofs.Common.{rules, ◌∙◌, sym, set, get_or, arith}
use Rattle.std.specs.FinMap.{put}
use Rattle.std.specs.Ordering.{nat_cmp}
use Rattle.std.specs.Vec.{with_item}
use Rattle.object_store.specs.Rows.{object_rows}
use Rattle.object_store.proofs.Living.{rows_put, is_one, missing_field, has_field}
use Rattle.object_store.proofs.objects.set_field.Goals as goal

pub unreachable-requires : goal.unreachable-requires
unreachable-requires g c = missing_field c.args.objects.now c.args.number c.args.place c.requires.there c.in_default.ensures.value

pub index_mut-requires : goal.index_mut-requires
index_mut-requires g c =
    let long = has_field c.args.objects.now c.args.number c.args.place c.in-Some.object.now c.requires.there c.in-Some.ensures.value in
    omega (arith, long, c.in-Some.object.now.fields.ok)

pub returns-clause-was : goal.returns-clause-was
returns-clause-was g c = λ o is.
    let one = is_one c.args.objects.now c.args.number c.in-Some.object.now o c.in-Some.ensures.value is in
    let taken = c.replace.ensures.value in
    taken ∙ c.index_mut.ensures.value ∙ (λ i. get_or (one i).fields c.args.place (sym taken i))

pub returns-clause-set : goal.returns-clause-set
returns-clause-set g c = λ o is.
    let one = is_one c.args.objects.now c.args.number c.in-Some.object.now o c.in-Some.ensures.value is in
    let after = c.replace.ensures.after in
    let new = record c.in-Some.object.now { fields = with_item c.in-Some.object.now.fields c.args.place c.replace.new.dest } in
    rows_put c.args.objects.now (c.get_mut.follows.lender new) c.requires.ordered (c.get_mut.follows.holds new).4 c.args.number new ((c.get_mut.follows.holds new).3 (search rules))
    ∙ (λ i. put nat_cmp c.args.number (record (one i) { fields = set (one i).fields c.args.place (after i) }) (object_rows c.args.objects.now.entries))
