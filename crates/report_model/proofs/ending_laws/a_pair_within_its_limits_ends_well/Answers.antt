use Rattle.report_model.proofs.EndLaws.{ends_well}
use Rattle.report_model.proofs.ending_laws.a_pair_within_its_limits_ends_well.Goals as goal

pub returns : goal.returns
returns c = ends_well
