use Rattle.rules_over_bases.proofs.TrailLemmas.{nothing_followed}
use Rattle.rules_over_bases.proofs.trail.Trail.new.Goals as goal

pub returns : goal.returns
returns c = λ reg. nothing_followed reg (record { steps = c.new.result; seen = c.new-2.result }) c.new-2.ensures c.new.ensures.items
