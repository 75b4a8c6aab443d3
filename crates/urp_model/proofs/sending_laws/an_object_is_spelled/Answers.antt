use Rattle.urp_model.proofs.PieceLaws.{oid_is}
use Rattle.urp_model.proofs.sending_laws.an_object_is_spelled.Goals as goal

pub returns : goal.returns
returns c = oid_is
