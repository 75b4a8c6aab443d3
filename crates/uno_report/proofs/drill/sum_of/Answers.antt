use Rattle.std.proofs.Common.{◌≡◌, ◌+◌, ◌+ℤ◌, ℤ, FitsSigned, to_z, drop, arith, rules, subst, sym}
use Rattle.std.proofs.lemmas.Int.{to_z-of_z}
use Rattle.std.specs.Int.{w64}
use Rattle.plan_types.specs.Frames.{variable_of, variables_of}
use Rattle.report_model.specs.Drills.{sum_of}
use Rattle.uno_report.proofs.Summing.{all_numbers_summed, one_number_summed}
use Rattle.uno_report.proofs.drill.sum_of.Goals as goal

pub loop-variable-preserved : goal.loop-variable-preserved
loop-variable-preserved c =
    let fits : FitsSigned w64 c.in_ok-next.next = search rules in
    let number_fits : FitsSigned w64 c.number_of.result = search rules in
    subst (λ (k : ℤ). k +ℤ sum_of (variables_of (drop (c.loop-variable.variable-index + 1) c.args.variables.now)) ≡ sum_of (variables_of c.args.variables.now))
    (sym (to_z-of_z w64 c.in_ok-next.next fits))
    (one_number_summed variable_of c.args.variables.now c.loop-variable.variable-index c.variable-item.result (to_z w64 c.loop-variable.all-bits) c.in_ok-next.next _ (omega arith) c.variable-item.is
    c.loop-variable.invariant (rw (to_z-of_z w64 c.number_of.result number_fits, c.number_of.ensures) at c.in_ok-next.ensures))

pub returns : goal.returns
returns c = all_numbers_summed variable_of c.args.variables.now c.loop-variable.variable-index (to_z w64 c.loop-variable.all-bits) _ (omega arith) c.loop-variable.invariant
