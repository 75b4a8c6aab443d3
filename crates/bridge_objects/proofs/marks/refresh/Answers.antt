use Rattle.std.proofs.Common.{◌∙◌, ap, sym}
use Rattle.std.specs.FinMap.{put}
use Rattle.std.specs.Ordering.{nat_cmp}
use Rattle.uno_values.specs.Values.{plain_of}
use Rattle.bridge_objects.specs.Objects.{objects_of}
use Rattle.bridge_objects.proofs.Lists.{the_one, marked_same}
use Rattle.bridge_objects.proofs.Marking.{marked_one, marked_later, free_later}
use Rattle.bridge_objects.proofs.marks.refresh.Goals as goal

pub returns-in_default-clause-marked : goal.returns-in_default-clause-marked
returns-in_default-clause-marked c early others =
    marked_later c.args.prefix.now c.args.first c.args.store.now.rows c.args.environment.now c.args.stubs.now c.args.oid.now others early
    (λ n late is. c.in_default.ensures.none n late (c.as_str.ensures ∙ is))

pub returns-clause-marked : goal.returns-clause-marked
returns-clause-marked c early others =
    let one = the_one _ c.in-Some.ensures.lives in
    marked_one c.args.prefix.now c.args.first c.args.store.now.rows c.args.environment.now c.args.stubs.now c.args.oid.now others c.in-Some.number one.0
    (sym c.as_str.ensures ∙ c.in-Some.ensures.is) one.1 c.later.ensures.few c.set_may_go.new.self.rows
    (ap (λ s. s.rows) (c.set_may_go.ensures one.0 one.1)
    ∙ ap (λ free. put nat_cmp c.in-Some.number (record one.0 { may_go = free }) c.args.store.now.rows)
    (c.is_bare-free.ensures ∙ free_later c.args.first c.in-Some.number _ c.in-Some.ensures.later))

pub returns-clause-objects : goal.returns-clause-objects
returns-clause-objects c =
    let one = the_one _ c.in-Some.ensures.lives in
    ap (λ s. objects_of plain_of s.rows) (c.set_may_go.ensures one.0 one.1) ∙ marked_same plain_of c.in-Some.number one.0 c.is_bare-free.result c.args.store.now.rows c.later.ensures.rises one.1

pub returns-clause-made : goal.returns-clause-made
returns-clause-made c =
    let one = the_one _ c.in-Some.ensures.lives in
    ap (λ s. s.made) (c.set_may_go.ensures one.0 one.1)
