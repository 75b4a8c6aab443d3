use Rattle.behaviour.specs.Roots.{run_of}
use Rattle.bridge_core.specs.Standing.{IsRunAt}
use Rattle.bridge_tests.proofs.endpoint.stepping.hear_all.Given as goal

abbrev pub invariant-loop-piece : goal.invariant-loop-piece
invariant-loop-piece g l = IsRunAt l.end (run_of l.root)
