use Rattle.std.specs.Prelude.{◌≡◌, ◌+◌, ◌≤◌, length}
use Rattle.plan_model.specs.PlanText.{lines_of, said_from}
use Rattle.plan_reading_model.specs.TextReading.{comes}
use Rattle.plan_checks.specs.Contexts.{context_of}
use Rattle.behaviour_text.proofs.read.read_each.Given as goal

abbrev pub invariant-loop-line : goal.invariant-loop-line
invariant-loop-line l =
    record {
      come : comes l.registry (1 + length (lines_of l.bytes)) (context_of l.fn.context) (said_from 2 (lines_of l.bytes))
          ≡ comes l.registry (1 + length (lines_of l.bytes)) (context_of l.context) (said_from (l.number + 1) (lines_of l.rest));
      count : 1 + length (lines_of l.bytes) ≡ l.number + length (lines_of l.rest);
      bound : l.number + length l.rest ≤ 1 + length l.bytes;
    }

abbrev pub decreases-loop-line : goal.decreases-loop-line
decreases-loop-line l = length l.rest
