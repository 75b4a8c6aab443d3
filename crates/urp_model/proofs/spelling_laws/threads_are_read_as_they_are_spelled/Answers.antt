use Rattle.urp_model.proofs.OidReadingLaws.{tid_agrees}
use Rattle.urp_model.proofs.spelling_laws.threads_are_read_as_they_are_spelled.Goals as goal

pub returns : goal.returns
returns c = tid_agrees
