use Rattle.plan_model.specs.Roots.{Run}
use Rattle.bridge_core.specs.Standing.{IsRunAt}
use Rattle.bridge_tests.proofs.endpoint.calls.run.Given as goal

-- each run stands for the journal as it did
abbrev pub invariant-loop-count : goal.invariant-loop-count
invariant-loop-count g l = (r : Run) → IsRunAt l.fn.end r → IsRunAt l.end r
