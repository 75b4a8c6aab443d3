use Rattle.std.proofs.Common.{ap, ◌∙◌}
use Rattle.report_model.specs.Reports.{report}
use Rattle.uno_report.proofs.Pieces.{two_put}
use Rattle.uno_report.proofs.report.report_lines.Goals as goal

pub returns : goal.returns
unfolding report
returns c = ap (λ v. v.items) c.into_bytes.ensures.value ∙ two_put _ _ _ _ _ c.new-text.ensures.bytes c.in_ok-push_roots.ensures c.in_ok-push_counts.ensures
