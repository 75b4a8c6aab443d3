use Rattle.uno_model.proofs.VisitLaws.{more_levels}
use Rattle.uno_model.proofs.function_laws.more_levels_meet_the_same_interfaces.Goals as goal

pub returns : goal.returns
returns c = more_levels
