use Rattle.report_model.proofs.EndLaws.{not_both}
use Rattle.report_model.proofs.ending_laws.a_pair_ends_well_or_at_a_limit.Goals as goal

pub returns : goal.returns
returns c = not_both
