use Rattle.std.proofs.Common.{◌≡◌, ◌+◌, drop}
use Rattle.std.specs.List.{count_by, sum_by}
use Rattle.behaviour.specs.Roots.{run_of}
use Rattle.report_model.specs.Drills.{says}
use Rattle.uno_report.proofs.drill.of_roots.Given as goal

abbrev pub invariant-loop-run : goal.invariant-loop-run
invariant-loop-run l = l.count + sum_by (λ r. count_by (says l.word) (run_of r).lines) (drop l.run-index l.runs) ≡ sum_by (λ r. count_by (says l.word) (run_of r).lines) l.runs
