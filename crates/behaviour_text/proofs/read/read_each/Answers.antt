use Rattle.behaviour_text.proofs.ReadLemmas.{none_left}
use Rattle.behaviour_text.proofs.read.read_each.Goals as goal

pub returns-clause-read : goal.returns-clause-read
returns-clause-read c = none_left _ _ _ _ _ _ c.in_default.ensures c.loop-line.invariant.count c.loop-line.invariant.come
