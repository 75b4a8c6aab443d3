use Rattle.std.proofs.Common.{◌≡◌, ◌+◌, cond, drop}
use Rattle.std.specs.List.{sum_by}
use Rattle.report_model.specs.Drills.{says}
use Rattle.uno_report.proofs.drill.of_lines.Given as goal

abbrev pub invariant-loop-line : goal.invariant-loop-line
invariant-loop-line l = l.count + sum_by (λ x. cond (says l.word x) 1 0) (drop l.line-index l.lines) ≡ sum_by (λ x. cond (says l.word x) 1 0) l.lines
