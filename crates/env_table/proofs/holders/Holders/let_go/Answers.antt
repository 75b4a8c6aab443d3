use Rattle.std.proofs.Common.{◌∙◌, ap, arith, length}
use Rattle.env_table.proofs.Counted.{has_times, bag_less, length_less}
use Rattle.env_table.proofs.holders.Holders.let_go.Goals as goal

pub reset-requires : goal.reset-requires
reset-requires c = has_times c.self.inside.times c.self.invariant.0 c.args.self.now c.self.view_is c.args.holder c.requires

pub invariant_of-self : goal.invariant_of-self
invariant_of-self c =
    let shorter = length_less c.self.inside.times c.self.invariant.0 c.args.self.now c.self.view_is c.args.holder
    c.reset.new.self c.reset.ensures.distinct c.times-times.result c.times-times.ensures c.requires c.reset.ensures.set in
    let was = c.self.invariant.1 ∙ ap length c.self.view_is in
    let few = c.self.invariant.2 in
    (c.reset.ensures.distinct, omega (arith, shorter, was), omega (arith, shorter, was, few, c.self.invariant.1))

pub returns : goal.returns
returns c =
    bag_less c.self.inside.times c.self.invariant.0 c.args.self.now c.self.view_is c.args.holder
    c.reset.new.self c.reset.ensures.distinct c.times-times.result c.times-times.ensures c.requires c.reset.ensures.set
