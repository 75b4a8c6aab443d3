use Rattle.std.proofs.Common.{◌≡◌, ◌+ℤ◌, drop}
use Rattle.std.specs.List.{flat_map}
use Rattle.behaviour.specs.Roots.{run_of}
use Rattle.report_model.specs.Drills.{sum_of}
use Rattle.uno_report.proofs.drill.sum_of_roots.Given as goal

abbrev pub invariant-loop-run : goal.invariant-loop-run
invariant-loop-run l = l.all +ℤ sum_of (flat_map (λ r. (run_of r).variables) (drop l.run-index l.runs)) ≡ sum_of (flat_map (λ r. (run_of r).variables) l.runs)
