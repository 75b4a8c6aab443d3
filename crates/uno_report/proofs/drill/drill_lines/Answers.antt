use Rattle.std.proofs.Common.{FitsSigned, rules, ap, ◌∙◌}
use Rattle.std.proofs.lemmas.Int.{to_z-of_z}
use Rattle.std.specs.Int.{w64}
use Rattle.uno_report.proofs.Totals.{summed_up}
use Rattle.uno_report.proofs.drill.drill_lines.Goals as goal

pub returns : goal.returns
returns c =
    let fits : FitsSigned w64 c.in_ok-sum.sum = search rules in
    ap (λ v. v.items) c.into_bytes.ensures.value
    ∙ summed_up _ _ _ _ c.in_ok-sum.sum _ _ _ _ _ _ c.in_ok-returned.ensures c.in_ok-same.ensures c.in_ok-sum.ensures (rw (to_z-of_z w64 c.in_ok-sum.sum fits) at c.in_ok-text.ensures)
    c.in_ok-push_counts.ensures c.in_ok-push_counts-2.ensures
