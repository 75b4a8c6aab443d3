use Rattle.std.proofs.Common.{◌≡◌, ◌≤◌, List, length, map, take}
use Rattle.behaviour.specs.Roots.{run_of}
use Rattle.bridge_model.specs.Orders.{first_runs}
use Rattle.plan_model.specs.Statements.{RootStatement}
use Rattle.uno_run.proofs.serving.openings.Given as goal

abbrev pub invariant-loop-place : goal.invariant-loop-place
invariant-loop-place l = (threads : List (List RootStatement)) → l.place ≤ length threads → map run_of l.runs.items ≡ first_runs 1 (take l.place threads)
