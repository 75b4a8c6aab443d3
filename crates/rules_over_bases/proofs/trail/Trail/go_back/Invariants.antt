use Rattle.std.proofs.Common.{◌≡◌, length}
use Rattle.rules_over_bases.proofs.TrailLemmas.{AreFirst}
use Rattle.rules_over_bases.proofs.trail.Trail.go_back.Given as goal

abbrev pub invariant-loop-step : goal.invariant-loop-step
invariant-loop-step l =
    record {
      steps : AreFirst l.fn.self.steps.items l.self.steps.items;
      seen : l.self.seen ≡ l.fn.self.seen;
    }

abbrev pub decreases-loop-step : goal.decreases-loop-step
decreases-loop-step l = length l.self.steps.items
