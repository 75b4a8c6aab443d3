use Rattle.report_model.proofs.EndLaws.{one_report}
use Rattle.report_model.proofs.ending_laws.a_pair_has_one_report.Goals as goal

pub returns : goal.returns
returns c = one_report
