use Rattle.urp_model.proofs.OidReadingLaws.{oid_agrees}
use Rattle.urp_model.proofs.spelling_laws.objects_are_read_as_they_are_spelled.Goals as goal

pub returns : goal.returns
returns c = oid_agrees
