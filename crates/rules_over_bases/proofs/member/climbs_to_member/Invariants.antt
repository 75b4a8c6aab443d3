use Rattle.std.proofs.Common.{◌+◌, ◌-◌, length}
use Rattle.uno_entities.specs.Entities.{entities_of}
use Rattle.rules_over_bases.proofs.ClimbLemmas.{Climbing}
use Rattle.rules_over_bases.proofs.member.climbs_to_member.Given as goal

abbrev pub invariant-loop : goal.invariant-loop
invariant-loop l = Climbing (entities_of l.entities) l.place l.at (length l.entities + 1 - l.counter)
