use Rattle.std.proofs.Common.{◌≡◌, ◌+ℤ◌, drop}
use Rattle.plan_types.specs.Frames.{variables_of}
use Rattle.report_model.specs.Drills.{sum_of}
use Rattle.uno_report.proofs.drill.sum_of.Given as goal

abbrev pub invariant-loop-variable : goal.invariant-loop-variable
invariant-loop-variable l = l.all +ℤ sum_of (variables_of (drop l.variable-index l.variables)) ≡ sum_of (variables_of l.variables)
