use Rattle.std.proofs.Common.{◌∙◌}
use Rattle.env_table.proofs.Counted.{counted_times}
use Rattle.env_table.proofs.holders.Holders.times.Goals as goal

pub returns : goal.returns
returns c = c.of.ensures.number ∙ counted_times c.self.inside.times c.self.invariant.0 c.args.self.now c.self.view_is c.args.holder
