use Rattle.bridge_laws.proofs.TypedGivenLaws.{is_given}
use Rattle.bridge_laws.proofs.EndLaws.{none_begun, past_ended}
use Rattle.bridge_laws.proofs.root_end_laws.behind_the_end_a_root_begins_nothing.Goals as goal

pub returns-clause-nothing : goal.returns-clause-nothing
returns-clause-nothing c = none_begun

pub returns-clause-past : goal.returns-clause-past
returns-clause-past c g sound built differ keeps short = past_ended g (is_given g sound built differ keeps short)
