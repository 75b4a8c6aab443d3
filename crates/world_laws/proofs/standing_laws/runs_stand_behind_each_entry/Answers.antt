use Rattle.bridge_laws.proofs.TypedGivenLaws.{is_given}
use Rattle.world_laws.proofs.StandingLaws.{entered_stand, others_stand, passed_stand}
use Rattle.world_laws.proofs.standing_laws.runs_stand_behind_each_entry.Goals as goal

pub returns-clause-none : goal.returns-clause-none
returns-clause-none c = others_stand

pub returns-clause-own : goal.returns-clause-own
returns-clause-own c = λ g sound built differ keeps short es told leads rs n r next all there x goes. entered_stand g (is_given g sound built differ keeps short) es told leads rs n r next all there x goes

pub returns-clause-silent : goal.returns-clause-silent
returns-clause-silent c = λ g sound built differ keeps short es told leads rs n r next all there goes. passed_stand g (is_given g sound built differ keeps short) es told leads rs n r next all there goes
