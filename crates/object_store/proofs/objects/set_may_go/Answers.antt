use Rattle.std.proofs.Common.{rules, ◌∙◌}
use Rattle.std.specs.FinMap.{put}
use Rattle.std.specs.Ordering.{nat_cmp}
use Rattle.object_store.specs.Rows.{object_rows}
use Rattle.object_store.proofs.Living.{rows_put, is_one, missing}
use Rattle.object_store.proofs.objects.set_may_go.Goals as goal

pub unreachable-requires : goal.unreachable-requires
unreachable-requires g c = missing c.args.objects.now c.args.number c.requires.there c.in_default.ensures.value

pub returns-clause-set : goal.returns-clause-set
returns-clause-set g c = λ o is.
    let set = record c.in-Some.object.now { may_go = c.args.may_go } in
    let one = is_one c.args.objects.now c.args.number c.in-Some.object.now o c.in-Some.ensures.value is in
    rows_put c.args.objects.now (c.get_mut.follows.lender set) c.requires.ordered (c.get_mut.follows.holds set).4 c.args.number set ((c.get_mut.follows.holds set).3 (search rules))
    ∙ (λ i. put nat_cmp c.args.number (record (one i) { may_go = c.args.may_go }) (object_rows c.args.objects.now.entries))
