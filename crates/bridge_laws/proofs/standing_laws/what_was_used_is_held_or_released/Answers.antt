use Rattle.bridge_laws.proofs.StandingHistoryLaws.{all_stand, rest_stands}
use Rattle.bridge_laws.proofs.TellingLaws.{all_allowed}
use Rattle.bridge_laws.proofs.standing_laws.what_was_used_is_held_or_released.Goals as goal

pub returns-clause-whole : goal.returns-clause-whole
returns-clause-whole c g es x p constants other leads = all_stand g es x p constants (all_allowed g es x leads).told other leads

pub returns-clause-rest : goal.returns-clause-rest
returns-clause-rest c g es x p front rest constants other leads = rest_stands g es x p front rest constants (all_allowed g es x leads).told other leads
