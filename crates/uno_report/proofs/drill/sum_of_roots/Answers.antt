use Rattle.std.proofs.Common.{◌≡◌, ◌+◌, ◌+ℤ◌, ℤ, FitsSigned, to_z, drop, arith, rules, ap, subst, sym, ◌∙◌}
use Rattle.std.proofs.lemmas.Int.{to_z-of_z}
use Rattle.std.proofs.lemmas.List.Folds.{flat_map-map}
use Rattle.std.specs.Int.{w64}
use Rattle.std.specs.List.{flat_map}
use Rattle.behaviour.specs.Roots.{run_of}
use Rattle.report_model.specs.Drills.{sum_of}
use Rattle.uno_report.proofs.Summing.{all_summed, one_summed}
use Rattle.uno_report.proofs.drill.sum_of_roots.Goals as goal

pub loop-run-preserved : goal.loop-run-preserved
loop-run-preserved c =
    let fits : FitsSigned w64 c.in_ok-next.next = search rules in
    let number_fits : FitsSigned w64 c.in_ok-number.number = search rules in
    let number = rw c.as_slice.ensures at c.in_ok-number.ensures in
    subst (λ (k : ℤ). k +ℤ sum_of (flat_map (λ r. (run_of r).variables) (drop (c.loop-run.run-index + 1) c.args.runs.now)) ≡ sum_of (flat_map (λ r. (run_of r).variables) c.args.runs.now))
    (sym (to_z-of_z w64 c.in_ok-next.next fits))
    (one_summed (λ r. (run_of r).variables) c.args.runs.now c.loop-run.run-index c.run-item.result (to_z w64 c.loop-run.all-bits) c.in_ok-next.next _ (omega arith) c.run-item.is
    c.loop-run.invariant (rw (to_z-of_z w64 c.in_ok-number.number number_fits, number) at c.in_ok-next.ensures))

pub returns : goal.returns
returns c =
    all_summed (λ r. (run_of r).variables) c.args.runs.now c.loop-run.run-index (to_z w64 c.loop-run.all-bits) _ (omega arith) c.loop-run.invariant
    ∙ ap sum_of (sym (flat_map-map (λ r. r.variables) run_of c.args.runs.now))
