use Rattle.uno_model.proofs.CircleLaws.{ends_no_circle}
use Rattle.uno_model.proofs.circle_laws.what_ends_has_no_circle.Goals as goal

pub returns : goal.returns
returns c = ends_no_circle
