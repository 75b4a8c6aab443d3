use Rattle.behaviour.specs.Roots.{run_of}
use Rattle.bridge_core.specs.Standing.{IsRunAt}
use Rattle.bridge_tests.proofs.endpoint.stepping.step_all.Given as goal

abbrev pub invariant-loop : goal.invariant-loop
invariant-loop l = IsRunAt l.end (run_of l.root)
