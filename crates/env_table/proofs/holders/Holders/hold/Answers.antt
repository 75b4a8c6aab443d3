use Rattle.std.proofs.Common.{◌∙◌, ap, arith, length}
use Rattle.std.specs.Ordering.{eq_by_cmp}
use Rattle.table_model.specs.Holdings.{holder_cmp}
use Rattle.table_model.proofs.BagLaws.{how_many_at_most, length_one_more}
use Rattle.env_table.proofs.Counted.{bag_more}
use Rattle.env_table.proofs.holders.Holders.hold.Goals as goal

pub overflow_add-times : goal.overflow_add-times
overflow_add-times c =
    let few = how_many_at_most (eq_by_cmp holder_cmp c.args.holder) c.args.self.now in
    let was = c.self.invariant.1 ∙ ap length c.self.view_is in
    let most = c.self.invariant.2 in
    omega (arith, c.times-times.ensures, was, most)

pub invariant_of-self-2 : goal.invariant_of-self-2
invariant_of-self-2 c =
    let more = bag_more c.self.inside.times c.self.invariant.0 c.args.self.now c.self.view_is c.args.holder
    c.set.new.self c.set.ensures.distinct c.times-times.result c.times-times.ensures c.in_ok-set.ensures.set in
    let longer = ap length more ∙ length_one_more holder_cmp c.args.holder c.args.self.now in
    let was = c.self.invariant.1 ∙ ap length c.self.view_is in
    let below = c.if-self-ge-MOST.false in
    (c.set.ensures.distinct, omega (arith, longer, was), omega (arith, below))

pub returns-clause-held : goal.returns-clause-held
returns-clause-held c =
    bag_more c.self.inside.times c.self.invariant.0 c.args.self.now c.self.view_is c.args.holder
    c.set.new.self c.set.ensures.distinct c.times-times.result c.times-times.ensures c.in_ok-set.ensures.set
