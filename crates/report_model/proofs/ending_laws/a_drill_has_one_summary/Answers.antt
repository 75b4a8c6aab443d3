use Rattle.report_model.proofs.EndLaws.{one_summary}
use Rattle.report_model.proofs.ending_laws.a_drill_has_one_summary.Goals as goal

pub returns : goal.returns
returns c = one_summary
