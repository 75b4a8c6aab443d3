use Rattle.std.proofs.Common.{FitsSigned, map, rules}
use Rattle.std.proofs.lemmas.Int.{to_z-of_z}
use Rattle.std.specs.Int.{w64}
use Rattle.behaviour.specs.Roots.{run_of}
use Rattle.plan_model.specs.Roots.{Run}
use Rattle.uno_report.proofs.Summing.{sum_of_ends}
use Rattle.uno_report.proofs.drill.sum_in.Goals as goal

pub returns : goal.returns
returns c =
    let a_fits : FitsSigned w64 c.in_ok-a.a = search rules in
    let b_fits : FitsSigned w64 c.in_ok-b.b = search rules in
    sum_of_ends (λ (r : Run). r.variables) (map run_of c.args.runs.now.a.items) (map run_of c.args.runs.now.b.items) c.in_ok-a.a c.in_ok-b.b c.sum.result (rw c.as_slice.ensures.value at c.in_ok-a.ensures) (rw c.as_slice-2.ensures.value at c.in_ok-b.ensures)
    (rw (to_z-of_z w64 c.in_ok-a.a a_fits, to_z-of_z w64 c.in_ok-b.b b_fits) at c.sum.ensures)
