use Rattle.report_model.proofs.EndLaws.{reaches_limit}
use Rattle.report_model.proofs.ending_laws.a_pair_at_a_limit_kept_its_promises.Goals as goal

pub returns : goal.returns
returns c = reaches_limit
