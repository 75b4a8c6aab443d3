use Rattle.std.proofs.Common.{ap, nat_lt}
use Rattle.env_table.proofs.Occurrences.{times_are}
use Rattle.env_table.proofs.part.Part.holds.Goals as goal

pub returns : goal.returns
returns c = ap (nat_lt 0) (times_are c.self.inside.pairs c.times.ensures.rises c.args.self.now c.self.view_is _ _ c.args.holder c.times.ensures.times)
