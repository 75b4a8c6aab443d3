use Rattle.std.proofs.Common.{◌≡◌, length}
use Rattle.idl_repeated_names.proofs.WayLemmas.{AreFirst}
use Rattle.idl_repeated_names.proofs.way.Way.back_to.Given as goal

abbrev pub invariant-loop-step : goal.invariant-loop-step
invariant-loop-step l =
    record {
      steps : AreFirst l.fn.self.steps.items l.self.steps.items;
      twins : l.self.twins ≡ l.fn.self.twins;
    }

abbrev pub decreases-loop-step : goal.decreases-loop-step
decreases-loop-step l = length l.self.steps.items
