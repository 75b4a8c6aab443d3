use Rattle.bridge_laws.proofs.TypedGivenLaws.{is_given}
use Rattle.bridge_laws.proofs.CallLaws.{outcome_is}
use Rattle.bridge_laws.proofs.call_laws.an_outcome_is_that_of_the_call_of_its_statement.Goals as goal

pub returns : goal.returns
returns c g sound built differ keeps short = outcome_is g (is_given g sound built differ keeps short)
