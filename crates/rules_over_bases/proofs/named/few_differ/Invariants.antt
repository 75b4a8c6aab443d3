use Rattle.std.proofs.Common.{◌≡◌, length, map}
use Rattle.uno_model.specs.Sound.{all_differ}
use Rattle.rules_over_bases.proofs.named.few_differ.Given as goal

abbrev pub invariant-loop-first : goal.invariant-loop-first
invariant-loop-first g l = all_differ (map g.T.Named.named l.rest) ≡ all_differ (map g.T.Named.named l.things)

abbrev pub decreases-loop-first : goal.decreases-loop-first
decreases-loop-first g l = length l.rest
