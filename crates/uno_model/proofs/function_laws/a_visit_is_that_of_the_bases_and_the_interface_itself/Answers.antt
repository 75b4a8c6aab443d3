use Rattle.uno_model.proofs.VisitLaws.{visit_is}
use Rattle.uno_model.proofs.function_laws.a_visit_is_that_of_the_bases_and_the_interface_itself.Goals as goal

pub returns : goal.returns
returns c = visit_is
